-- The verdict over a unit, by its start and by the errors of its item.
use Rattle.std.proofs.Common.{◌≡◌, ◌≢◌, ℕ, List, [], ◌∷◌, map, Option, Some, None, Result, Ok, Err, refl, ap, ◌∙◌}
use Rattle.al_base.specs.declared.diagnostic.Diagnostic.{Diagnostic}
use Rattle.al_base.specs.declared.unit_key.UnitKey.{UnitKey}
use Rattle.al_tree_syntax.specs.UnitTrees.{CompilationUnitTree}
use Rattle.al_query.specs.Reads.{Table}
use Rattle.al_base_fault.specs.declared.fault.Fault.{Fault}
use Rattle.al_stmts.specs.FaultLists.{all_faults}
use Rattle.al_view_typed.specs.UnitTrees.{UnitTree}
use Rattle.al_view.specs.declared.view.ViewKind.{ViewKind}
use Rattle.al_query_outcome.specs.declared.interface.UnitInterface.{UnitInterface}
use Rattle.al_stmts.specs.Steps.{Inside}
use Rattle.al_check_bounded.specs.Verdicts.{Verdict}
use Rattle.al_check_bounded.specs.Verdicts.Verdict.{Wrong, Right}
use Rattle.al_check_here.specs.Ends.{ends_told}
use Rattle.al_check_start.specs.UnitsAt.{unit_at}
use Rattle.al_check_start.specs.declared.unit.UnitStart.{UnitStart}
use Rattle.al_check_bounded.specs.Ended.{ended, right_at, viewed}
use Rattle.al_check_bounded.specs.Made.{fault_in, faults_in, or_not_yet, unless_wrong}
use Rattle.al_check_bounded.specs.Said.{own_view}
use Rattle.al_check_bounded.specs.declared.after.EndedText.{EndedText}
use Rattle.al_check_bounded.specs.declared.after.UnitFacts.{UnitFacts}
use Rattle.al_check.specs.Ada.{ada_verdict, ended_text, item_faults, item_walked, round_of, verdict_from}
use Rattle.al_check.proofs.FromAnswers.{start_own}
use Rattle.al_check.specs.Laws.{ItemFaultsAreReported, SoundUnitsHaveNoFault, StartFaultsAreReported}

-- ---- what is found after an item

none_in : (unit : UnitKey) (faults : List Fault) → map (fault_in unit) faults ≡ [] → faults ≡ []
none_in unit [] h = refl
none_in unit (f ∷ faults) h = cc

unless_right : (wrong : List Diagnostic) (v : Verdict) (i : UnitInterface) (made : UnitTree) → unless_wrong wrong v ≡ Right i made → wrong ≡ []
unless_right [] v i made h = refl
unless_right (d ∷ wrong) v i made h = cc

unless_some : (wrong : List Diagnostic) (v : Verdict) → wrong ≢ [] → unless_wrong wrong v ≡ Wrong wrong
unless_some [] v h = absurd (h refl)
unless_some (d ∷ wrong) v h = refl

or_some : (unit : UnitKey) (wrong : List Diagnostic) → wrong ≢ [] → or_not_yet unit wrong ≡ wrong
or_some unit [] h = absurd (h refl)
or_some unit (d ∷ wrong) h = refl

module _ (r : UnitFacts) (e : EndedText) (x : Inside) where
  viewed_right : (view : Option ViewKind) (i : UnitInterface) (made : UnitTree) → viewed r view e x ≡ Right i made → all_faults x.faults ≡ []
  viewed_right None i made h = cc
  viewed_right (Some kind) i made h = none_in r.unit (all_faults x.faults) (unless_right (faults_in r.unit x.faults) (right_at r kind e x) i made h)

  viewed_wrong : (view : Option ViewKind) → all_faults x.faults ≢ [] → viewed r view e x ≡ Wrong (faults_in r.unit x.faults)
  viewed_wrong None h = ap Wrong (or_some r.unit (faults_in r.unit x.faults) (λ n. h (none_in r.unit (all_faults x.faults) n)))
  viewed_wrong (Some kind) h = unless_some (faults_in r.unit x.faults) (right_at r kind e x) (λ n. h (none_in r.unit (all_faults x.faults) n))

  ended_right : (i : UnitInterface) (made : UnitTree) → ended r e x ≡ Right i made → all_faults x.faults ≡ []
  unfolding ended
  ended_right i made h = viewed_right (own_view e.own e.declared r.view) i made h

  ended_wrong : all_faults x.faults ≢ [] → ended r e x ≡ Wrong (faults_in r.unit x.faults)
  unfolding ended
  ended_wrong h = viewed_wrong (own_view e.own e.declared r.view) h

-- ---- what is found of a unit

right_in : (t : Table) (unit : UnitKey) (tree : CompilationUnitTree) (start : Result UnitStart Fault) (i : UnitInterface) (made : UnitTree) → verdict_from t unit tree start ≡ Right i made
    → (s : UnitStart) × (start ≡ Ok s) × (all_faults (item_faults t tree s) ≡ [])
right_in t unit tree (Err f) i made h = absurd (cc)
right_in t unit tree (Ok s) i made h = (s, refl, ended_right (round_of tree s) (ended_text (ends_told (item_walked t tree s).0)) (item_walked t tree s).1 i made h)

started : (unit : UnitKey) (text : List ℕ) (tree : CompilationUnitTree) (t : Table) (start : Result UnitStart Fault) → unit_at t unit tree ≡ start → ada_verdict unit text tree t ≡ verdict_from t unit tree start
unfolding ada_verdict
started unit text tree t start h = ap (verdict_from t unit tree) h

pub start_told : StartFaultsAreReported
start_told unit text tree t f h = started unit text tree t (Err f) h

pub item_told : ItemFaultsAreReported
item_told unit text tree t s h some =
    let walked = (item_walked t tree s).0 in
    started unit text tree t (Ok s) h ∙ ended_wrong (round_of tree s) (ended_text (ends_told walked)) (item_walked t tree s).1 some
    ∙ ap (λ (u : UnitKey). Wrong (faults_in u (item_faults t tree s))) (start_own t unit tree s h)

pub sound_faultless : SoundUnitsHaveNoFault
unfolding ada_verdict
sound_faultless unit text tree t i made h = right_in t unit tree (unit_at t unit tree) i made h
