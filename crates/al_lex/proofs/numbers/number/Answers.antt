use Rattle.std.proofs.Common.{◌<◌, sym, subst, ℕ}
use Rattle.al_lex.specs.declared.numbers.Parts.{Parts}
use Rattle.al_lex.specs.Numbers.{number_len}
use Rattle.al_lex.proofs.Numerals.{some_number}
use Rattle.al_lex.proofs.numbers.number.Goals as goal

pub returns-in-Ok-clause-some : goal.returns-in-Ok-clause-some
returns-in-Ok-clause-some c =
    let some = subst (λ (p : Parts). 0 < number_len p) (sym c.parts_of-parts.ensures.exact) (some_number c.args.bytes.now c.requires) in
    subst (λ (n : ℕ). 0 < n) (sym c.number_len.ensures) some

pub returns-in-Some-clause-some : goal.returns-in-Some-clause-some
returns-in-Some-clause-some c = subst (λ (n : ℕ). 0 < n) c.in-Some.ensures.len (some_number c.args.bytes.now c.requires)
