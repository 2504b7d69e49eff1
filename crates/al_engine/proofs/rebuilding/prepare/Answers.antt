use Rattle.std.proofs.Common.{ℕ, List, Option, IfSome, map, ap, sym, subst, false, ◌≡◌, ◌∙◌}
use Rattle.al_base.specs.declared.unit_key.UnitKey.{UnitKey}
use Rattle.al_unit_faults.specs.FilesSeen.{file_faults_model}
use Rattle.al_query.specs.Known.{has_unit}
use Rattle.al_query_store.specs.Keyed.{now_at, settled_at}
use Rattle.al_engine_refresh.specs.Stored.{Stored}
use Rattle.al_engine.specs.Objects.{AreCoded}
use Rattle.al_engine.specs.Plans.{IsPlanned}
use Rattle.al_engine.specs.BatchRenewals.{KeepsPartition}
use Rattle.al_engine.specs.Earlier.{IsBase, KeepsEarlier, over}
use Rattle.al_engine_refresh.specs.Moves.{Entries}
use Rattle.al_engine_refresh.specs.Moving.{MarksFollow, now_table}
use Rattle.al_engine.specs.Reasons.{AreReasons}
use Rattle.al_engine_refresh.specs.Builds.{results_of}
use Rattle.al_engine.specs.Rechecks.{IsUpdated}
use Rattle.al_engine.specs.RecheckEdits.{units_of}
use Rattle.al_engine.specs.declared.edited.EditedUnit.{EditedUnit}
use Rattle.al_engine.proofs.EditedThere.{each-found}
use Rattle.al_engine.proofs.Left.{of-edited, others-left, renewed-by, settled-left}
use Rattle.al_engine.specs.Renewed.{IsCleanBut}
use Rattle.al_engine.proofs.rebuilding.prepare.Goals as goal

pub plan_now-requires-clause-faults : goal.plan_now-requires-clause-faults
plan_now-requires-clause-faults g c = ap (map file_faults_model) c.as_slice-faults.ensures.value ∙ c.requires.graph.faults

pub plan_now-requires-clause-coded : goal.plan_now-requires-clause-coded
plan_now-requires-clause-coded g c = subst (λ (e : Entries). AreCoded (now_at e)) (sym c.entries-entries.ensures) (λ u e is. (c.in_ok-given.ensures.updated.rechecked.law u e is).code)

pub plan_now-requires-clause-clean : goal.plan_now-requires-clause-clean
plan_now-requires-clause-clean g c = λ known.
    let old = c.args.cache.now.store in
    let new = c.check_library.new.cache.store in
    let found = c.renewed_units-edits.result in
    let K = λ (at : UnitKey → Option Stored). IfSome found (λ edits. IsCleanBut c.args.sources.now at (units_of edits.now)) in
    subst (λ (e : Entries). K (settled_at e)) (sym c.entries-entries.ensures)
    (subst K (λ i u. sym (settled-left old new c.in_ok-given.ensures.left u) i)
    (of-edited c.args.edited.now c.in_ok-given.given.is_renewal (λ (edits : List EditedUnit). IsCleanBut c.args.sources.now (settled_at old) (units_of edits)) found c.renewed_units-edits.ensures (c.requires.clean known)))

pub plan_now-requires-clause-others : goal.plan_now-requires-clause-others
plan_now-requires-clause-others g c =
    let old = c.args.cache.now.store in
    let new = c.check_library.new.cache.store in
    let found = c.renewed_units-edits.result in
    let renewed = renewed-by c.args.edited.now c.in_ok-given.given.is_renewal (settled_at old) (now_at new) found c.renewed_units-edits.ensures c.in_ok-given.ensures.renewed in
    subst (λ (e : Entries). IfSome found (λ edits. (w : UnitKey) → has_unit (units_of edits.now) w ≡ false → now_at e w ≡ settled_at e w)) (sym c.entries-entries.ensures)
    (others-left old new c.in_ok-given.ensures.left found renewed)

pub plan_now-requires-clause-kept : goal.plan_now-requires-clause-kept
plan_now-requires-clause-kept g c =
    let old = c.args.cache.now.store in
    let new = c.check_library.new.cache.store in
    let found = c.renewed_units-edits.result in
    let K : (UnitKey → Option Stored) → List ℕ → Type 0 = λ at last. KeepsPartition c.args.sources.now (results_of at) last c.args.gave.now.compiled × KeepsEarlier c.args.sources.now (results_of at) c.args.gave.now.earlier in
    each-found c.args.standing.main (λ last. IfSome c.args.edited.now (λ _. K (settled_at old) last.now)) (λ last. IfSome found (λ _. K (settled_at c.entries-entries.result.now) last.now)) c.requires.kept
    (λ last has.
    subst (λ (e : Entries). IfSome found (λ _. K (settled_at e) last.now)) (sym c.entries-entries.ensures)
    (subst (λ (at : UnitKey → Option Stored). IfSome found (λ _. K at last.now)) (λ i u. sym (settled-left old new c.in_ok-given.ensures.left u) i)
    (of-edited c.args.edited.now c.in_ok-given.given.is_renewal (λ _. K (settled_at old) last.now) found c.renewed_units-edits.ensures has)))

pub reasons_of-requires : goal.reasons_of-requires
reasons_of-requires g c = subst (λ (e : Entries). MarksFollow (g.P.Answers.table c.args.predefined.now) e) (sym c.entries-entries.ensures) c.in_ok-given.ensures.updated.marks

pub returns-clause-prepared : goal.returns-clause-prepared
returns-clause-prepared g c =
    let new = c.check_library.new.cache.store in
    let planned = subst (λ (e : Entries). IsPlanned c.args.sources.now (results_of (now_at e)) c.args.main.now (over c.args.gave.now c.in_ok-found.found.1) c.in_ok-found.found.0) c.entries-entries.ensures c.in_ok-found.ensures.planned in
    let given = c.in_ok-given.given in
    let parts = c.into_parts-checked.ensures in
    let update : (List UnitKey → ℕ → Type 0) = λ us n. IsUpdated g.C.UnitCheck.meaning g.C.Text.ReadText.header (g.P.Answers.table c.args.predefined.now) c.args.sources.now c.args.cache.now.store new us n in
    record {
      updated =
          subst (λ (us : List UnitKey). update us c.into_parts-checked.result.1) (ap (λ it. it.0.items) (sym parts))
          (subst (λ (n : ℕ). update given.checked.items n) (ap (λ it. it.1) (sym parts)) c.in_ok-given.ensures.updated);
      is_planned = planned;
      is_base = subst (λ (e : Entries). IfSome c.in_ok-found.found.1 (IsBase c.args.sources.now (results_of (now_at e)) c.args.gave.now)) c.entries-entries.ensures c.in_ok-found.ensures.base;
      closed =
          c.partitions_are_closed.ensures g.C.UnitCheck.meaning g.C.Text.ReadText.header (g.P.Answers.table c.args.predefined.now) c.args.sources.now c.args.graph.now.order.items c.requires.headed c.requires.bodies c.requires.predefined c.requires.graph.order
          _ (now_at new) _ c.in_ok-given.ensures.updated.rechecked c.args.main.now (over c.args.gave.now c.in_ok-found.found.1) c.in_ok-found.found.0 planned;
      law = c.in_ok-given.ensures.law;
      are_reasons =
          subst (λ (e : Entries). AreReasons (now_table (g.P.Answers.table c.args.predefined.now) e) c.args.sources.now (settled_at e) c.into_parts-checked.result.0.items c.in_ok-reasons.reasons.items) c.entries-entries.ensures
          (subst (λ (us : List UnitKey). AreReasons (now_table (g.P.Answers.table c.args.predefined.now) c.entries-entries.result.now) c.args.sources.now (settled_at c.entries-entries.result.now) us c.in_ok-reasons.reasons.items) c.as_slice.ensures.value c.in_ok-reasons.ensures);
    }
