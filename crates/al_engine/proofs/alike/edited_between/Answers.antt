use Rattle.std.proofs.Common.{◌≡◌, ℕ, List, Bor, map, sym, ap, ◌∙◌, arith}
use Rattle.std.proofs.lemmas.List.{length-map}
use Rattle.std.specs.Map.{keys_of}
use Rattle.al_engine.proofs.Files.{Known, all_known, more_known, now_known, stepped}
use Rattle.al_engine.proofs.alike.edited_between.Goals as goal

pub loop-file-preserved : goal.loop-file-preserved
loop-file-preserved c =
    let old = c.args.old.now in
    let new = c.args.new.now in
    stepped (λ n. n.now) (Known old new c.note.new.edited) c.as_slice-file-items.result.now c.loop-file.file-index _ c.loop-file-test.true
    (λ k below file is. more_known old new c.loop-file.edited c.note.new.edited c.in_ok-note.ensures.kept file (c.loop-file.invariant k below file is))
    (now_known old new c.note.new.edited _ c.kept_at.result _ c.in-Some.is c.kept_at.ensures c.in_ok-note.ensures.noted)

pub returns : goal.returns
returns c =
    let names = λ (items : List (Bor (List ℕ))). map (λ n. n.now) items in
    let items = c.as_slice-file-items.result.now in
    let of_new : names items ≡ keys_of c.args.new.now = ap names c.as_slice-file-items.ensures.value ∙ c.in_ok-files.ensures in
    let same : keys_of c.args.old.now ≡ keys_of c.args.new.now = c.in_ok-are_same.ensures c.if-not-are_same.false in
    all_known c.args.old.now c.args.new.now (names items) (of_new ∙ sym same) of_new c.loop-file.edited
    (λ k below file is. c.loop-file.invariant k (omega (arith, below, c.loop-file-test.false, length-map items (λ n. n.now))) file is)
