use Rattle.std.proofs.Common.{◌≡◌, ◌++◌, ◌∷◌, ◌+◌, ◌∙◌, List, [], take, sym, ap, subst}
use Rattle.std.specs.Option.{option_copied}
use Rattle.std.proofs.lemmas.List.{take_all}
use Rattle.al_base.specs.declared.unit_key.UnitKey.{UnitKey}
use Rattle.al_engine_refresh.proofs.LoopLemmas.{done-at}
use Rattle.al_engine.specs.Walks.{AreInOrder}
use Rattle.al_engine.specs.declared.edited.EditedUnit.{EditedUnit}
use Rattle.al_engine.proofs.RowLemmas.{row-begins, row-leaves, row-takes}
use Rattle.al_engine.proofs.walking.in_order.Goals.{in-Some+in_ok-copied+in_ok-push, in_default}
use Rattle.al_engine.proofs.walking.in_order.Goals as goal

pub loop-unit-init : goal.loop-unit-init
loop-unit-init c = subst (λ (row : List EditedUnit). AreInOrder [] c.args.edits.now row) (sym c.new-row.ensures.items) (row-begins c.args.edits.now)

pub loop-unit-preserved : goal.loop-unit-preserved
loop-unit-preserved c =
    let order = c.args.order.now in
    let edits = c.args.edits.now in
    let i = c.loop-unit.unit-index in
    let u = c.unit-item.result in
    let row = c.loop-unit.row.items in
    let more : take (i + 1) order ≡ take i order ++ u ∷ [] = done-at order i u c.loop-unit-test.true c.unit-item.is in
    subst (λ (us : List UnitKey). AreInOrder us edits c.match-edit_of.row.items) (sym more)
    (elim c.match-edit_of.branch as (λ _. AreInOrder (take i order ++ u ∷ []) edits c.match-edit_of.row.items) [
      | in-Some+in_ok-copied+in_ok-push w ↦
          subst (λ (rows : List EditedUnit). AreInOrder (take i order ++ u ∷ []) edits rows)
          (ap (λ (e : EditedUnit). row ++ e ∷ []) (sym w.in_ok-copied.ensures) ∙ sym w.in_ok-push.ensures.items ∙ ap (λ v. v.items) (sym w.row-is))
          (row-takes (take i order) edits row u w.in-Some.edited.now c.loop-unit.invariant (sym c.edit_of.ensures ∙ ap option_copied w.in-Some.is))
      | in_default w ↦
          subst (λ (rows : List EditedUnit). AreInOrder (take i order ++ u ∷ []) edits rows) (ap (λ v. v.items) (sym w.row-is))
          (row-leaves (take i order) edits row u c.loop-unit.invariant (sym c.edit_of.ensures ∙ ap option_copied w.in_default.is))
    ])

pub returns : goal.returns
returns c = subst (λ (us : List UnitKey). AreInOrder us c.args.edits.now c.loop-unit.row.items) (take_all c.loop-unit.unit-index c.args.order.now c.loop-unit-test.false) c.loop-unit.invariant
