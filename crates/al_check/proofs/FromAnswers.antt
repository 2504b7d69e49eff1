-- What is wrong with a unit is something, each of it in the unit's own file and of a rule of checks.
use Rattle.std.proofs.Common.{◌≡◌, Bool, true, false, if◌then◌else◌, ◌&&◌, List, [], ◌∷◌, length, map, nat_lt, Option, Some, None, Result, Ok, Err, refl, ap, subst, ◌∙◌, arith}
use Rattle.std.specs.Prelude.{⊤}
use Rattle.std.specs.List.{list_all}
use Rattle.std.proofs.lemmas.Bool.Decides.{nat_tests}
use Rattle.std.proofs.lemmas.Slice.Eq.{bytes_eq-Decides}
use Rattle.al_base.specs.Batch.{key_of}
use Rattle.al_base.specs.FileNames.{file_name_of}
use Rattle.al_base.specs.Rules.{number_of}
use Rattle.al_base.specs.declared.diagnostic.Diagnostic.{Diagnostic}
use Rattle.al_base.specs.declared.unit_key.UnitKey.{UnitKey}
use Rattle.al_base_fault.specs.CheckRules.{rule_number}
use Rattle.al_base_fault.specs.Judging.{next, unless}
use Rattle.al_base_fault.specs.declared.check_rule.CheckRule.{CheckRule}
use Rattle.al_base_fault.specs.declared.check_rule.CheckRule.TheVariants.{Duplicate, MissingCompletion, NotConformant, NotStatic, OutOfLimits, NotAllowedHere, BadPragma, EndName, NoValue, NotComplete, NotVisible, NoInterpretation, Ambiguous, WrongKind, StaticFailure, NotAVariable, BadReturn, BadExit, BadChoices, NoReturn, NotLibraryLevel, SecondEntry, BadBarrier, OwnOperation, NotYet}
use Rattle.al_base_fault.specs.declared.fault.Fault.{Fault}
use Rattle.al_stmts.specs.FaultLists.{all_faults}
use Rattle.al_tree_syntax.specs.UnitTrees.{CompilationUnitTree}
use Rattle.al_unit_header.specs.Units.{header_of}
use Rattle.al_view.specs.declared.view.ViewKind.{ViewKind}
use Rattle.al_query.specs.Reads.{Table}
use Rattle.al_scope_context.specs.Contexts.{context_at}
use Rattle.al_scope_context.specs.declared.context.Context.{Context}
use Rattle.al_query_outcome.specs.ReadsLaw.{is_check_code, is_fault_of}
use Rattle.al_stmts.specs.Steps.{Inside}
use Rattle.al_check_promises.proofs.Kept.{own_fault}
use Rattle.al_check_bounded.specs.Verdicts.{IsTold, Verdict}
use Rattle.al_check_bounded.specs.Verdicts.Verdict.{Wrong}
use Rattle.al_check_here.specs.Ends.{ends_told}
use Rattle.al_check_start.specs.Around.{is_own, is_surrounded, not_surrounded}
use Rattle.al_check_start.specs.UnitsAt.{completed_at, name_fault, start_after, start_with, unit_at}
use Rattle.al_check_start.specs.declared.unit.UnitStart.{UnitStart}
use Rattle.al_check_bounded.specs.Ended.{ended, right_at, viewed}
use Rattle.al_check_bounded.specs.Made.{fault_in, faults_in, or_not_yet, unless_wrong}
use Rattle.al_check_bounded.specs.Said.{own_view}
use Rattle.al_check_bounded.specs.declared.after.EndedText.{EndedText}
use Rattle.al_check_bounded.specs.declared.after.UnitFacts.{UnitFacts}
use Rattle.al_check.specs.Ada.{ended_text, item_walked, round_of, verdict_from}

-- ---- errors

-- the number of each rule of checks is one of theirs
of_checks : (r : CheckRule) → is_check_code (rule_number r) ≡ true
unfolding number_of
of_checks Duplicate = refl
of_checks MissingCompletion = refl
of_checks NotConformant = refl
of_checks NotStatic = refl
of_checks OutOfLimits = refl
of_checks NotAllowedHere = refl
of_checks BadPragma = refl
of_checks EndName = refl
of_checks NoValue = refl
of_checks NotComplete = refl
of_checks NotVisible = refl
of_checks NoInterpretation = refl
of_checks Ambiguous = refl
of_checks WrongKind = refl
of_checks StaticFailure = refl
of_checks NotAVariable = refl
of_checks BadReturn = refl
of_checks BadExit = refl
of_checks BadChoices = refl
of_checks NoReturn = refl
of_checks NotLibraryLevel = refl
of_checks SecondEntry = refl
of_checks BadBarrier = refl
of_checks OwnOperation = refl
of_checks NotYet = refl

fault_told : (unit : UnitKey) (f : Fault) → is_fault_of unit (fault_in unit f) ≡ true
fault_told unit f =
    ap (λ b. b && is_check_code (rule_number f.rule)) ((bytes_eq-Decides (file_name_of (key_of unit)) (file_name_of (key_of unit))).1 refl) ∙ of_checks f.rule

all_told : (unit : UnitKey) (fs : List Fault) → list_all (is_fault_of unit) (map (fault_in unit) fs) ≡ true
all_told unit [] = refl
all_told unit (f ∷ fs) = ap (λ b. b && list_all (is_fault_of unit) (map (fault_in unit) fs)) (fault_told unit f) ∙ all_told unit fs

-- ---- the unit whose source it is

abbrev OfUnit : UnitKey → Result UnitStart Fault → Type 0
OfUnit unit (Ok s) = s.own.unit ≡ unit
OfUnit unit (Err f) = ⊤

module _ (t : Table) (unit : UnitKey) (tree : CompilationUnitTree) where
  started : (c : Context) → OfUnit unit (start_after t unit (header_of tree) tree c)
  started c = by (is_surrounded t unit (header_of tree) start.own start.packages) (name_fault t unit tree.item (completed_at t unit tree.item).view)
    where
      start : UnitStart
      start = start_with t unit tree.item c (completed_at t unit tree.item)

      by : (b : Bool) (fault : Option Fault) → OfUnit unit (if b then unless fault (Ok start) else Err (not_surrounded tree))
      by true None = refl
      by true (Some f) = tt
      by false fault = tt

  start_of : OfUnit unit (unit_at t unit tree)
  unfolding unit_at
  start_of = by (is_own unit (header_of tree)) (context_at t tree.context)
    where
      by : (own : Bool) (r : Result Context Fault) → OfUnit unit (if own then next r (start_after t unit (header_of tree) tree) else Err (not_surrounded tree))
      by true (Ok c) = started c
      by true (Err f) = tt
      by false r = tt

  pub start_own : (s : UnitStart) → unit_at t unit tree ≡ Ok s → s.own.unit ≡ unit
  start_own s is = subst (λ (r : Result UnitStart Fault). OfUnit unit r) is start_of

-- ---- what is found

is_some_fault : (d : Diagnostic) (ds : List Diagnostic) → nat_lt 0 (length (d ∷ ds)) ≡ true
is_some_fault d ds = grind (arith, nat_tests)

told_unless : (unit : UnitKey) (wrong : List Diagnostic) (v : Verdict) → list_all (is_fault_of unit) wrong ≡ true → IsTold unit v → IsTold unit (unless_wrong wrong v)
told_unless unit [] v h k = k
told_unless unit (d ∷ wrong) v h k = (is_some_fault d wrong, h)

told_or : (unit : UnitKey) (wrong : List Diagnostic) → list_all (is_fault_of unit) wrong ≡ true → IsTold unit (Wrong (or_not_yet unit wrong))
told_or unit [] h = (refl, own_fault unit)
told_or unit (d ∷ wrong) h = (is_some_fault d wrong, h)

module _ (r : UnitFacts) (e : EndedText) (x : Inside) where
  viewed_told : (view : Option ViewKind) → IsTold r.unit (viewed r view e x)
  viewed_told None = told_or r.unit (faults_in r.unit x.faults) (all_told r.unit (all_faults x.faults))
  viewed_told (Some kind) = told_unless r.unit (faults_in r.unit x.faults) (right_at r kind e x) (all_told r.unit (all_faults x.faults)) tt

  ended_told : IsTold r.unit (ended r e x)
  unfolding ended
  ended_told = viewed_told (own_view e.own e.declared r.view)

pub verdict_told : (t : Table) (unit : UnitKey) (tree : CompilationUnitTree) → IsTold unit (verdict_from t unit tree (unit_at t unit tree))
verdict_told t unit tree = by (unit_at t unit tree) (start_of t unit tree)
  where
    by : (start : Result UnitStart Fault) → OfUnit unit start → IsTold unit (verdict_from t unit tree start)
    by (Ok s) own = subst (λ (u : UnitKey). IsTold u (verdict_from t unit tree (Ok s))) own (ended_told (round_of tree s) (ended_text (ends_told (item_walked t tree s).0)) (item_walked t tree s).1)
    by (Err f) own = (refl, all_told unit (f ∷ []))
