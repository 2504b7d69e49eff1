use Rattle.std.proofs.Common.{◌≡◌, ℕ, false, true, List, is_some, map, ap, ◌∙◌, arith, add-one}
use Rattle.std.proofs.lemmas.Grind.{common_steps}
use Rattle.al_base.specs.Files.{text_of}
use Rattle.al_folder_served.proofs.Brought.{deleted_to, deletes_gone, deletes_no_other, not_yet_deleted, item_within, item_is, item_file, past_all, done, not_refused, may_delete}
use Rattle.al_folder_served.proofs.Libraries.{one_deleted, none_deleted, left_ascends}
use Rattle.al_folder_served.proofs.bringing.delete_gone.Goals as goal
use Rattle.al_folder_served.proofs.bringing.delete_gone.Goals.{then-is_none+in_ok-taken, else-is_none}

pub taken-requires : goal.taken-requires
taken-requires g c =
    let are = ap (map (λ f. (f.0.now, f.1.now.value.items))) c.deref-name-items.ensures.value ∙ c.in_ok-list.ensures.list in
    let e : List ℕ × List ℕ = (c.loop-name-item.result.0.now, c.loop-name-item.result.1.now.value.items) in
    let within = item_within (λ f. (f.0.now, f.1.now.value.items)) c.deref-name-items.result.now c.args.before.now are c.loop-name.name-index c.loop-name-item.result c.loop-name-test.true c.loop-name-item.is in
    let is = item_is (λ f. (f.0.now, f.1.now.value.items)) c.deref-name-items.result.now c.args.before.now are c.loop-name.name-index c.loop-name-item.result c.loop-name-test.true c.loop-name-item.is in
    let file = item_file (λ f. (f.0.now, f.1.now.value.items)) c.deref-name-items.result.now c.args.before.now are c.loop-name.name-index c.loop-name-item.result c.loop-name-test.true c.loop-name-item.is c.in_ok-list.ensures.files.each in
    let there = not_yet_deleted c.args.now.now c.args.before.now c.loop-name.name-index e c.in_ok-list.ensures.ascend within is in
    not_refused c.delete.result _ c.delete.ensures.answer (may_delete (g.L.UnitLibrary.state c.loop-name.library).now e.0 e.1 file.0 (ap (λ l. text_of l.now e.0) c.loop-name.invariant ∙ there))

pub loop-name-preserved : goal.loop-name-preserved
loop-name-preserved g c =
    let are = ap (map (λ f. (f.0.now, f.1.now.value.items))) c.deref-name-items.ensures.value ∙ c.in_ok-list.ensures.list in
    let e : List ℕ × List ℕ = (c.loop-name-item.result.0.now, c.loop-name-item.result.1.now.value.items) in
    let within = item_within (λ f. (f.0.now, f.1.now.value.items)) c.deref-name-items.result.now c.args.before.now are c.loop-name.name-index c.loop-name-item.result c.loop-name-test.true c.loop-name-item.is in
    let is = item_is (λ f. (f.0.now, f.1.now.value.items)) c.deref-name-items.result.now c.args.before.now are c.loop-name.name-index c.loop-name-item.result c.loop-name-test.true c.loop-name-item.is in
    rw add-one (elim c.if-is_none.branch [
      | then-is_none+in_ok-taken w ↦
          let off : is_some (text_of c.args.now.now e.0) ≡ false = grind (arith, common_steps, w.if-is_none.true, c.get.ensures, c.is_none.ensures) in
          one_deleted (g.L.UnitLibrary.state c.args.library.now) (g.L.UnitLibrary.state c.loop-name.library) (g.L.UnitLibrary.state c.if-is_none.library)
          (deleted_to c.args.now.now c.args.before.now c.loop-name.name-index) _ c.loop-name.invariant e.0
          (ap g.L.UnitLibrary.state w.library-is ∙ done w.delete.result w.in_ok-taken.ensures.ok w.delete.ensures.ok)
          (deletes_gone c.args.now.now c.args.before.now c.loop-name.name-index e c.in_ok-list.ensures.ascend within is off)
      | else-is_none w ↦
          let on : is_some (text_of c.args.now.now e.0) ≡ true = grind (arith, common_steps, w.if-is_none.false, c.get.ensures, c.is_none.ensures) in
          none_deleted (g.L.UnitLibrary.state c.args.library.now) (g.L.UnitLibrary.state c.loop-name.library) (g.L.UnitLibrary.state c.if-is_none.library)
          (deleted_to c.args.now.now c.args.before.now c.loop-name.name-index) _ c.loop-name.invariant
          (ap g.L.UnitLibrary.state w.library-is)
          (deletes_no_other c.args.now.now c.args.before.now c.loop-name.name-index e within is on)
    ])

pub returns-clause-ascend : goal.returns-clause-ascend
returns-clause-ascend g c =
    let are = ap (map (λ f. (f.0.now, f.1.now.value.items))) c.deref-name-items.ensures.value ∙ c.in_ok-list.ensures.list in
    left_ascends (g.L.UnitLibrary.state c.args.library.now) (g.L.UnitLibrary.state c.loop-name.library) c.args.now.now c.args.before.now c.loop-name.name-index c.loop-name.invariant
    (past_all (λ f. (f.0.now, f.1.now.value.items)) c.deref-name-items.result.now c.args.before.now are c.loop-name.name-index c.loop-name-test.false)
    c.in_ok-list.ensures.ascend
