use Rattle.std.proofs.Common.{◌≡◌, length, ap, arith, ◌∙◌, rules}
use Rattle.std.specs.Char.{to_ascii_lowercase}
use Rattle.std.proofs.lemmas.Bool.Decides.{Decides-ltb}
use Rattle.std.proofs.lemmas.List.{length-map}
use Rattle.al_base.specs.ReservedWords.{spelling}
use Rattle.al_base.proofs.ReservedLemmas.{spelling-some}
use Rattle.al_base.proofs.reserved.candidate.Goals as goal

pub returns-then-is_empty : goal.returns-then-is_empty
returns-then-is_empty c = λ w is.
    let same : length (spelling w) ≡ length c.args.word.now = ap length is ∙ length-map c.args.word.now to_ascii_lowercase in
    let some = (Decides-ltb 0 (length (spelling w))).0 (spelling-some w) in
    let empty : length c.args.word.now ≡ 0 = search rules in
    absurd (omega (arith, same, some, empty))
