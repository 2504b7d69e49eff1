use Rattle.std.proofs.Common.{ℕ, ◌*◌, ◌^◌, ◌∙◌, min, ap}
use Rattle.al_lex.proofs.Numerals.{scaled_by}
use Rattle.al_lex.proofs.numbers.scaled.Goals as goal

pub returns : goal.returns
returns c =
    c.saturating_mul.ensures
    ∙ ap (λ (k : ℕ). min (c.args.mantissa * k) 18446744073709551615) (c.saturating_pow.ensures ∙ ap (λ (k : ℕ). min (c.args.base ^ k) 18446744073709551615) c.min.ensures)
    ∙ scaled_by c.args.mantissa c.args.base c.args.exponent c.requires
