use Rattle.std.proofs.Common.{ℕ, ◌≡◌, ◌<◌, ◌∙◌, false, Ok, take, drop, ap, sym, subst, arith}
use Rattle.std.specs.Char.{is_ascii_digit}
use Rattle.std.specs.List.{prefix_len}
use Rattle.al_lex.specs.Numbers.{number_at, numeral_value, parts_of, runs_on}
use Rattle.al_lex.proofs.PlainNumbers.{plain_len, plain_value, plain_small}
use Rattle.al_lex.proofs.numbers.plain_len.Goals as goal

pub returns-then-not-runs_on-clause-len : goal.returns-then-not-runs_on-clause-len
returns-then-not-runs_on-clause-len c =
    let bs = c.args.bytes.now in
    let same : c.digit_count-len.result ≡ prefix_len is_ascii_digit bs = c.digit_count-len.ensures.exact in
    let over : runs_on (drop (prefix_len is_ascii_digit bs) bs) ≡ false = ap (λ (k : ℕ). runs_on (drop k bs)) (sym same) ∙ ap runs_on (sym c.split_at.ensures.back) ∙ sym c.runs_on.ensures ∙ c.if-not-runs_on.true in
    plain_len bs over ∙ sym same

pub returns-then-not-runs_on-clause-value : goal.returns-then-not-runs_on-clause-value
returns-then-not-runs_on-clause-value c =
    let bs = c.args.bytes.now in
    let same : c.digit_count-len.result ≡ prefix_len is_ascii_digit bs = c.digit_count-len.ensures.exact in
    let over : runs_on (drop (prefix_len is_ascii_digit bs) bs) ≡ false = ap (λ (k : ℕ). runs_on (drop k bs)) (sym same) ∙ ap runs_on (sym c.split_at.ensures.back) ∙ sym c.runs_on.ensures ∙ c.if-not-runs_on.true in
    subst (λ (k : ℕ). number_at (parts_of bs) bs ≡ Ok (numeral_value 10 0 (take k bs))) (sym same) (plain_value bs over (omega (arith, same, c.if-len-le-FEW_DIGITS.true)))

pub returns-then-not-runs_on-clause-small : goal.returns-then-not-runs_on-clause-small
returns-then-not-runs_on-clause-small c =
    let bs = c.args.bytes.now in
    let same : c.digit_count-len.result ≡ prefix_len is_ascii_digit bs = c.digit_count-len.ensures.exact in
    subst (λ (k : ℕ). numeral_value 10 0 (take k bs) < 9223372036854775808) (sym same) (plain_small bs (omega (arith, same, c.if-len-le-FEW_DIGITS.true)))
