use Rattle.std.proofs.Common.{◌≡◌, ℕ, ◌<◌, ◌≤◌, false, List, [], Bor, map, length, get_or, ap, subst, sym, ◌∙◌, arith}
use Rattle.std.proofs.lemmas.List.{take_all, length-map, get_or-map}
use Rattle.std.specs.Bool.{Decides}
use Rattle.std.specs.Option.{option_map}
use Rattle.std.specs.List.{flat_map, fold}
use Rattle.std.specs.BTreeSet.{insert_key}
use Rattle.al_base.specs.Batch.{key_of}
use Rattle.al_unit_graph.specs.Dependence.{listed}
use Rattle.al_unit_graph.specs.Traces.{IsTouched}
use Rattle.al_unit_graph.specs.Orders.{key_cmp, names_model}
use Rattle.al_unit_faults.specs.Wanted.{AreTouched, obsolete_by, obsolete_in}
use Rattle.al_unit_faults.proofs.ListingLemmas.{obsolete_by_files, obsolete_step}
use Rattle.std.proofs.lemmas.List.{get_or_default}
use Rattle.al_unit_faults.proofs.obsolete_units.obsolete.Goals as goal
use Rattle.al_unit_faults.proofs.obsolete_units.obsolete.Goals.{in-Some+in_ok-insert, in_default}

pub loop-i-preserved : goal.loop-i-preserved
loop-i-preserved c = λ alike.
    let old = c.args.built.now in
    let new = c.args.now.now in
    let faulty = names_model c.args.faulty.now.keys in
    let now = λ (f : Bor (List ℕ)). f.now in
    let items = c.deref-file-items.result.now in
    let files = map now items in
    let i = c.loop-i.i in
    let count : length files ≡ length items = length-map items now in
    let near : i < length items = c.loop-i-test.true in
    let within : i < length files = omega arith in
    let flags = c.in_ok-touched.touched.items in
    let same_files = ap (λ fs. map now fs) (c.as_slice.ensures.value ∙ sym c.deref-file-items.ensures.value) in
    let touched = subst (λ fs. AreTouched old new fs flags) same_files c.in_ok-touched.ensures in
    let enough : length files ≤ length flags = touched.0 in
    let flagged : i < length flags = omega arith in
    let t = c.index.result.now in
    let flag : t ≡ get_or flags i false = c.index.ensures ∙ get_or_default flags i t false flagged in
    let decided = subst (λ b. Decides b (IsTouched old new (get_or files i []))) (sym flag) (touched.1 i within) in
    let file = get_or-map now items i (record { ref_ptr = (0, 0); now = [] }) [] near in
    let found = c.in_ok-key.field-0 in
    let unit : listed (option_map key_of found) ≡ obsolete_by old faulty new (get_or files i []) t = c.in_ok-key.ensures ∙ ap (λ f. obsolete_by old faulty new f t) (sym file) in
    let step = obsolete_step old faulty new files i c.loop-i.keys (option_map key_of found) t within alike decided unit (c.loop-i.invariant alike) in
    elim c.match-branch-4.branch [
      | in-Some+in_ok-insert w ↦ w.keys-is ∙ w.in_ok-insert.ensures ∙ ap (λ o. fold (insert_key key_cmp) c.loop-i.keys (listed (option_map key_of o))) (sym w.in-Some.is) ∙ step
      | in_default w ↦ w.keys-is ∙ ap (λ o. fold (insert_key key_cmp) c.loop-i.keys (listed (option_map key_of o))) (sym w.in_default.is) ∙ step
    ]

pub returns : goal.returns
returns c = λ alike.
    let old = c.args.built.now in
    let new = c.args.now.now in
    let faulty = names_model c.args.faulty.now.keys in
    let now = λ (f : Bor (List ℕ)). f.now in
    let files = map now c.deref-file-items.result.now in
    let count : length files ≡ length c.deref-file-items.result.now = length-map c.deref-file-items.result.now now in
    let ended : length files ≤ c.loop-i.i = omega arith in
    c.in_ok-list.ensures
    ∙ c.loop-i.invariant alike
    ∙ ap (λ fs. fold (insert_key key_cmp) [] (flat_map (obsolete_in old faulty new) fs)) (take_all c.loop-i.i files ended ∙ ap (λ fs. map now fs) c.deref-file-items.ensures.value ∙ c.in_ok-files.ensures)
    ∙ obsolete_by_files old faulty new
