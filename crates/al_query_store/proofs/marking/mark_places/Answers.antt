use Rattle.std.proofs.Common.{◌≡◌, ◌≤◌, ◌<◌, ◌+◌, ◌++◌, ◌∷◌, [], ◌∙◌, sym, ap, length, take, ℕ, Bool, true, false, List, arith, slice_index_or, if◌then◌else◌}
use Rattle.std.proofs.lemmas.Grind.{common_steps}
use Rattle.al_query_store.specs.declared.place.Place.{Place}
use Rattle.al_query_store.specs.Marking.{answer_at, is_of}
use Rattle.al_query_store.proofs.MarkLemmas.{count_more, did_same, more_marked}
use Rattle.al_query_store.proofs.marking.mark_places.Goals as goal
use Rattle.al_query_store.proofs.marking.mark_places.Goals.{then-branch, else-branch}

one_more : (places : List Place) (i : ℕ) (d : Place) → i < length places → take (i + 1) places ≡ take i places ++ slice_index_or places i d ∷ []
one_more places i d h = grind (arith, common_steps, h)

up_to : (b : Bool) (n m i : ℕ) → n ≤ i → m ≡ n + (if b then 1 else 0) → m ≤ i + 1
up_to true n m i h e = omega (arith, h, e)
up_to false n m i h e = omega (arith, h, e)

none_more : (n : ℕ) → n ≡ n + 0
none_more n = omega arith

pub loop-place-preserved : goal.loop-place-preserved
loop-place-preserved g c =
    let i = c.loop-place.place-index in
    let inv = c.loop-place.invariant in
    let log = g.E.Logged.log in
    let t = g.A.Answers.table c.args.asked.now in
    let u = c.args.unit.now in
    let did = c.in_ok-mark_place.field-0 in
    let d : Place = record { entry = 0; at = 0 } in
    let r = slice_index_or c.args.places.now i d in
    let step = one_more c.args.places.now i d c.loop-place-test.true in
    let e = c.in_ok-mark_place.ensures in
    let was = did_same log t u c.args.entries.now c.loop-place.entries c.mark_place.new.entries inv.2 r did e.did in
    let n : c.if-branch.compared ≡ c.loop-place.compared + (if did then 1 else 0) =
    elim c.if-branch.branch as (λ _. c.if-branch.compared ≡ c.loop-place.compared + (if did then 1 else 0)) [
      | then-branch w ↦ w.compared-is ∙ ap (λ (b : Bool). c.loop-place.compared + (if b then 1 else 0)) (sym w.if-branch.true)
      | else-branch w ↦ w.compared-is ∙ none_more c.loop-place.compared ∙ ap (λ (b : Bool). c.loop-place.compared + (if b then 1 else 0)) (sym w.if-branch.false)
    ] in (
      e.sized,
      e.untouched,
      λ k. e.base k ∙ inv.2 k,
      up_to did c.loop-place.compared c.if-branch.compared i inv.3 n,
      n ∙ count_more (λ p. is_of u (answer_at log c.args.entries.now p)) (take i c.args.places.now) (take (i + 1) c.args.places.now) r did c.loop-place.compared step was inv.4,
      more_marked log t u c.args.entries.now c.loop-place.entries c.mark_place.new.entries inv.2 (take i c.args.places.now) (take (i + 1) c.args.places.now) r step inv.5 e.marked,
    )
