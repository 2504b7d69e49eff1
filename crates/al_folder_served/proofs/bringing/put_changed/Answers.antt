use Rattle.std.proofs.Common.{◌≡◌, ℕ, suc, true, List, Some, length, map, sym, ap, subst, ◌∙◌, arith, add-one}
use Rattle.std.proofs.lemmas.Grind.{common_steps}
use Rattle.al_base.specs.Files.{text_of, with_file, put_refusal}
use Rattle.al_folder_served.specs.Brought.{still_there}
use Rattle.al_folder_served.proofs.Brought.{ArePutTo, none_put, puts_one, leaves_one, still_had, all_put, is_room, text_of_at, item_within, item_is, item_file, past_all, done, only_no_memory, may_put}
use Rattle.al_folder_served.proofs.Libraries.{same_files_of, but_files_again, but_files_yet, brought}
use Rattle.al_folder_served.proofs.bringing.put_changed.Goals as goal
use Rattle.al_folder_served.proofs.bringing.put_changed.Goals.{then-not-has_text+in_ok-from_slice+in_ok-taken, else-not-has_text}

pub loop-name-init : goal.loop-name-init
loop-name-init g c = record {
  files = none_put c.args.now.now (still_there c.args.now.now c.args.before.now) (g.L.UnitLibrary.state c.args.library.now).now c.requires.files c.requires.ascend;
  rest = λ i. g.L.UnitLibrary.state c.args.library.now;
}

pub taken-requires : goal.taken-requires
taken-requires g c =
    let are = ap (map (λ f. (f.0.now, f.1.now.value.items))) c.deref-name-items.ensures.value ∙ c.in_ok-list.ensures.list in
    let e : List ℕ × List ℕ = (c.loop-name-item.result.0.now, c.loop-name-item.result.1.now.value.items) in
    let within = item_within (λ f. (f.0.now, f.1.now.value.items)) c.deref-name-items.result.now c.args.now.now are c.loop-name.name-index c.loop-name-item.result c.loop-name-test.true c.loop-name-item.is in
    let is = item_is (λ f. (f.0.now, f.1.now.value.items)) c.deref-name-items.result.now c.args.now.now are c.loop-name.name-index c.loop-name-item.result c.loop-name-test.true c.loop-name-item.is in
    let file = item_file (λ f. (f.0.now, f.1.now.value.items)) c.deref-name-items.result.now c.args.now.now are c.loop-name.name-index c.loop-name-item.result c.loop-name-test.true c.loop-name-item.is c.in_ok-list.ensures.files.each in
    let its : c.in_ok-from_slice.field-0.items ≡ e.1 = c.in_ok-from_slice.ensures.items ∙ c.as_slice-then-not-has_text.ensures.value ∙ ap (λ v. v.items) c.deref-then-not-has_text.ensures in
    let there = text_of_at c.args.now.now c.loop-name.name-index e c.in_ok-list.ensures.ascend within is in
    let few = c.in_ok-list.ensures.files.few in
    only_no_memory c.put.result _ c.put.ensures.answer
    (ap (λ t. put_refusal (g.L.UnitLibrary.state c.loop-name.library).now e.0 (length t)) its
    ∙ may_put (g.L.UnitLibrary.state c.loop-name.library).now e.0 e.1 file (λ off.
    let less = is_room c.args.now.now c.args.before.now (g.L.UnitLibrary.state c.loop-name.library).now c.loop-name.name-index c.loop-name.invariant.files e there off in
    omega (arith, less, few)))

pub loop-name-preserved : goal.loop-name-preserved
loop-name-preserved g c =
    let are = ap (map (λ f. (f.0.now, f.1.now.value.items))) c.deref-name-items.ensures.value ∙ c.in_ok-list.ensures.list in
    let e : List ℕ × List ℕ = (c.loop-name-item.result.0.now, c.loop-name-item.result.1.now.value.items) in
    let within = item_within (λ f. (f.0.now, f.1.now.value.items)) c.deref-name-items.result.now c.args.now.now are c.loop-name.name-index c.loop-name-item.result c.loop-name-test.true c.loop-name-item.is in
    let is = item_is (λ f. (f.0.now, f.1.now.value.items)) c.deref-name-items.result.now c.args.now.now are c.loop-name.name-index c.loop-name-item.result c.loop-name-test.true c.loop-name-item.is in
    let had = still_there c.args.now.now c.args.before.now in
    rw add-one (elim c.if-not-has_text.branch [
      | then-not-has_text+in_ok-from_slice+in_ok-taken w ↦
          let its : w.in_ok-from_slice.field-0.items ≡ e.1 = w.in_ok-from_slice.ensures.items ∙ w.as_slice-then-not-has_text.ensures.value ∙ ap (λ v. v.items) w.deref-then-not-has_text.ensures in
          let stored = ap g.L.UnitLibrary.state w.library-is ∙ done w.put.result w.in_ok-taken.ensures.ok w.put.ensures.ok in
          let files = same_files_of (g.L.UnitLibrary.state c.args.library.now) (g.L.UnitLibrary.state c.loop-name.library) (g.L.UnitLibrary.state c.if-not-has_text.library) c.loop-name.invariant.rest _ stored ∙ ap (λ t. with_file (g.L.UnitLibrary.state c.loop-name.library).now e.0 t) its in
          record {
            files = subst (λ es. ArePutTo c.args.now.now had es (suc c.loop-name.name-index)) (sym files) (puts_one c.args.now.now had (g.L.UnitLibrary.state c.loop-name.library).now c.loop-name.name-index e c.in_ok-list.ensures.ascend within is c.loop-name.invariant.files);
            rest = but_files_again (g.L.UnitLibrary.state c.args.library.now) (g.L.UnitLibrary.state c.loop-name.library) (g.L.UnitLibrary.state c.if-not-has_text.library) c.loop-name.invariant.rest _ stored;
          }
      | else-not-has_text w ↦
          let on : c.has_text.result ≡ true = grind (arith, common_steps, w.if-not-has_text.false) in
          let text : text_of c.args.before.now e.0 ≡ Some e.1 = c.has_text.ensures.0 on ∙ ap (λ t. Some t) (c.as_slice.ensures.value ∙ ap (λ v. v.items) c.deref.ensures) in
          record {
            files = subst (λ es. ArePutTo c.args.now.now had es (suc c.loop-name.name-index)) (sym (ap (λ l. (g.L.UnitLibrary.state l).now) w.library-is)) (leaves_one c.args.now.now had (g.L.UnitLibrary.state c.loop-name.library).now c.loop-name.name-index e c.in_ok-list.ensures.ascend within is c.loop-name.invariant.files (still_had c.args.now.now c.args.before.now c.loop-name.name-index e c.in_ok-list.ensures.ascend within is text));
            rest = but_files_yet (g.L.UnitLibrary.state c.args.library.now) (g.L.UnitLibrary.state c.loop-name.library) (g.L.UnitLibrary.state c.if-not-has_text.library) c.loop-name.invariant.rest (ap g.L.UnitLibrary.state w.library-is);
          }
    ])

pub returns-clause-ok : goal.returns-clause-ok
returns-clause-ok g c =
    let are = ap (map (λ f. (f.0.now, f.1.now.value.items))) c.deref-name-items.ensures.value ∙ c.in_ok-list.ensures.list in
    brought (g.L.UnitLibrary.state c.args.library.now) (g.L.UnitLibrary.state c.loop-name.library) c.args.now.now c.loop-name.invariant.rest
    (all_put c.args.now.now c.args.before.now (g.L.UnitLibrary.state c.loop-name.library).now c.loop-name.name-index c.in_ok-list.ensures.ascend
    (past_all (λ f. (f.0.now, f.1.now.value.items)) c.deref-name-items.result.now c.args.now.now are c.loop-name.name-index c.loop-name-test.false)
    c.loop-name.invariant.files)
