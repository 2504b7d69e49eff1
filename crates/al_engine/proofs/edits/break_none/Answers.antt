use Rattle.std.proofs.Common.{arith, ◌≡◌, ◌+◌, ◌++◌, ◌∷◌, [], ◌∙◌, ℕ, List, map, take, sym, ap, subst}
use Rattle.std.proofs.lemmas.Grind.{common_steps}
use Rattle.std.proofs.lemmas.List.{take_all, take_more}
use Rattle.std.specs.List.{Contains}
use Rattle.al_base.specs.Batch.{Finding, finding_of}
use Rattle.al_unit_faults.specs.FilesSeen.{file_faults_model}
use Rattle.al_unit_faults.specs.declared.listing.FileFaults.{FileFaults}
use Rattle.al_engine.proofs.Kept.{each-more}
use Rattle.al_engine.proofs.edits.break_none.Goals as goal

pub loop-file-preserved : goal.loop-file-preserved
loop-file-preserved c =
    let xs = c.args.faults.now in
    let i = c.loop-file.file-index in
    let x = c.file-item.result in
    let more : take (i + 1) xs ≡ take i xs ++ x ∷ [] = take_more xs i x c.loop-file-test.true ∙ ap (λ (y : FileFaults). take i xs ++ y ∷ []) (sym c.file-item.is) in
    each-more file_faults_model (λ (f : List ℕ × List Finding). f.1 ≡ []) xs i x more c.loop-file.invariant
    (let empty : x.faults.items ≡ [] = grind (arith, common_steps, c.is_empty.ensures, c.if-not-is_empty.false) in ap (map finding_of) empty)

pub returns : goal.returns
returns c = λ is f has.
    c.loop-file.invariant f (subst (λ (xs : List FileFaults). Contains (map file_faults_model xs) f) (sym (take_all c.loop-file.file-index c.args.faults.now c.loop-file-test.false)) has)
