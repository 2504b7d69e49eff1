use Rattle.std.proofs.Common.{ℕ, ◌≡◌, ◌*◌, ◌^◌, ◌∙◌, List, min, ap, arith}
use Rattle.al_lex.specs.Numbers.{base_value, digits_of, exponent_of, numeral_value, value_of}
use Rattle.al_lex.proofs.Numerals.{scaled_up_to}
use Rattle.al_lex.proofs.numbers.value_of.Goals as goal

pub returns : goal.returns
unfolding value_of
returns c =
    let p = c.args.parts in
    let bs = c.args.bytes.now in
    let base : c.base_value-base.result ≡ base_value p bs = omega (arith, c.base_value-base.ensures, c.requires.small) in
    let digits : c.digits_of.result.now ≡ digits_of p bs = c.digits_of.ensures in
    let exponent : c.exponent_of.result.now ≡ exponent_of p bs = c.exponent_of.ensures in
    let m : c.numeral_value-mantissa.result ≡ min (numeral_value (base_value p bs) 0 (digits_of p bs)) 18446744073709551615 =
    c.numeral_value-mantissa.ensures ∙ ap (λ (k : ℕ). min (numeral_value k 0 c.digits_of.result.now) 18446744073709551615) base ∙ ap (λ (xs : List ℕ). min (numeral_value (base_value p bs) 0 xs) 18446744073709551615) digits in
    let e : c.numeral_value-exponent.result ≡ min (numeral_value 10 0 (exponent_of p bs)) 18446744073709551615 =
    c.numeral_value-exponent.ensures ∙ ap (λ (xs : List ℕ). min (numeral_value 10 0 xs) 18446744073709551615) exponent in
    c.scaled.ensures
    ∙ ap (λ (k : ℕ). min (k * c.base_value-base.result ^ c.numeral_value-exponent.result) 18446744073709551615) m
    ∙ ap (λ (k : ℕ). min (min (numeral_value (base_value p bs) 0 (digits_of p bs)) 18446744073709551615 * k ^ c.numeral_value-exponent.result) 18446744073709551615) base
    ∙ ap (λ (k : ℕ). min (min (numeral_value (base_value p bs) 0 (digits_of p bs)) 18446744073709551615 * base_value p bs ^ k) 18446744073709551615) e
    ∙ scaled_up_to 18446744073709551615 (numeral_value (base_value p bs) 0 (digits_of p bs)) (base_value p bs) (numeral_value 10 0 (exponent_of p bs)) c.requires.base
