-- What a unit has in whose source nothing is wrong: its start, and what the walk over its item left, after which nothing is wrong.
use Rattle.std.proofs.Common.{◌≡◌, refl, ℕ, Bool, true, false, List, [], ◌∷◌, ◌++◌, map, Option, Some, None, Ok, Err, if◌then◌else◌}
use Rattle.std.specs.Prelude.{Result, not, option_to_list}
use Rattle.al_base.specs.declared.diagnostic.Diagnostic.{Diagnostic}
use Rattle.al_base.specs.declared.unit_key.UnitKey.{UnitKey}
use Rattle.al_base_fault.specs.Judging.{next, unless}
use Rattle.al_base_fault.specs.declared.fault.Fault.{Fault}
use Rattle.al_check.specs.Ada.{ada_verdict, ended_text, item_walked, round_of, verdict_from}
use Rattle.al_check_bounded.specs.Ended.{ended, right_at, tree_at, viewed}
use Rattle.al_check_bounded.specs.Made.{fault_in, faults_in, unless_wrong}
use Rattle.al_check_bounded.specs.Said.{own_view, said}
use Rattle.al_check_bounded.specs.Verdicts.Verdict.{Right}
use Rattle.al_check_bounded.specs.declared.after.EndedText.{EndedText}
use Rattle.al_check_bounded.specs.declared.after.UnitFacts.{UnitFacts}
use Rattle.al_check_here.specs.Ends.{ends_told}
use Rattle.al_check_start.specs.Around.{is_own, is_surrounded, not_surrounded}
use Rattle.al_check_start.specs.Starts.{key, own_mentions}
use Rattle.al_check_start.specs.UnitsAt.{completed_at, name_fault, start_after, start_with, unit_at}
use Rattle.al_check_start.specs.declared.unit.UnitStart.{UnitStart}
use Rattle.al_query.specs.Known.{has_unit}
use Rattle.al_query.specs.Reads.{Table}
use Rattle.al_query_outcome.specs.Tables.{interface_of}
use Rattle.al_query_outcome.specs.declared.interface.UnitInterface.{UnitInterface}
use Rattle.al_scope_context.specs.Contexts.{context_at}
use Rattle.al_scope_context.specs.declared.context.Context.{Context}
use Rattle.al_stmts.specs.Steps.{Inside}
use Rattle.al_tree_syntax.specs.UnitTrees.{CompilationUnitTree}
use Rattle.al_unit_graph.specs.Headers.{kind_of}
use Rattle.al_unit_header.specs.Units.{header_of}
use Rattle.al_view.proofs.SymbolLemmas.{both, same_unit-one}
use Rattle.al_view.specs.Symbols.{same_unit}
use Rattle.al_view.specs.declared.view.ViewKind.{ViewKind}
use Rattle.al_view_typed.specs.UnitTrees.{UnitTree}
use Rattle.al_check_promise_laws.proofs.CleanLemmas.{Clean, IsNil, IsNone}
use Rattle.al_check_promise_laws.specs.Promises.{IsFound}

-- ---- the start

module _ (t : Table) (unit : UnitKey) (tree : CompilationUnitTree) where
  abbrev pub start_of : Context → UnitStart
  start_of c = start_with t unit tree.item c (completed_at t unit tree.item)

  -- it is that of its source, which is the unit's own
  pub record IsStart (s : UnitStart) : Type 0 where
    pub context : Context
    pub is : s ≡ start_of context
    pub own : is_own unit (header_of tree) ≡ true

  ok-is : (a b : UnitStart) → ◌≡◌ {A = Result UnitStart Fault} (Ok a) (Ok b) → b ≡ a
  ok-is a b e = cc

  surrounded : (s : UnitStart) → is_own unit (header_of tree) ≡ true → (c : Context) (b : Bool) (f : Option Fault) → (if b then unless f (Ok (start_of c)) else Err (not_surrounded tree)) ≡ Ok s → IsStart s
  surrounded s own c true None e = record { context = c; is = ok-is (start_of c) s e; own = own }
  surrounded s own c true (Some f) e = absurd (cc)
  surrounded s own c false f e = absurd (cc)

  in-context : (s : UnitStart) → is_own unit (header_of tree) ≡ true → (j : Result Context Fault) → next j (start_after t unit (header_of tree) tree) ≡ Ok s → IsStart s
  in-context s own (Ok c) e =
      surrounded s own c (is_surrounded t unit (header_of tree) (start_of c).own (start_of c).packages) (name_fault t unit tree.item (completed_at t unit tree.item).view) e
  in-context s own (Err f) e = absurd (cc)

  pub started : (s : UnitStart) → unit_at t unit tree ≡ Ok s → IsStart s
  unfolding unit_at
  started s e = by (is_own unit (header_of tree)) refl e
    where
      by : (b : Bool) → is_own unit (header_of tree) ≡ b → (if b then next (context_at t tree.context) (start_after t unit (header_of tree) tree) else Err (not_surrounded tree)) ≡ Ok s → IsStart s
      by true own i = in-context s own (context_at t tree.context) i
      by false own i = absurd (cc)

  -- the unit has the name and the kind of its source
  pub keyed : is_own unit (header_of tree) ≡ true → unit ≡ key (header_of tree).name (kind_of (header_of tree).form)
  keyed own =
      let h = header_of tree in
      same_unit-one unit (key h.name (kind_of h.form)) (both (same_unit unit (key h.name (kind_of h.form))) (not (has_unit (own_mentions h) unit)) own).0

-- ---- the end

-- what is made of what the walk left
pub record IsMade (r : UnitFacts) (e : EndedText) (x : Inside) (i : UnitInterface) (made : UnitTree) : Type 0 where
  pub view : ViewKind
  pub own : own_view e.own e.declared r.view ≡ Some view
  pub interface : i ≡ interface_of (said (record { own = e.own; kind = view; parent = r.parent; needs_body = r.needs_body; withs = r.withs; uses_inside = e.uses; private_types = r.private_types; completions = e.completions })) e.parts
  pub tree : made ≡ tree_at r e x
  pub clean : Clean x.faults

no-fault : (unit : UnitKey) (fs : List Fault) (o : Option Fault) → map (fault_in unit) (fs ++ option_to_list o) ≡ [] → IsNil fs × IsNone o
no-fault unit [] None e = (tt, tt)
no-fault unit [] (Some f) e = absurd (cc)
no-fault unit (f ∷ fs) o e = absurd (cc)

interface-is : (i j : UnitInterface) (a b : UnitTree) → Right i a ≡ Right j b → j ≡ i
interface-is i j a b e = cc

tree-is : (i j : UnitInterface) (a b : UnitTree) → Right i a ≡ Right j b → b ≡ a
tree-is i j a b e = cc

module _ (r : UnitFacts) (e : EndedText) (x : Inside) (i : UnitInterface) (made : UnitTree) where
  found-by : (view : ViewKind) → own_view e.own e.declared r.view ≡ Some view → (wrong : List Diagnostic) → faults_in r.unit x.faults ≡ wrong → unless_wrong wrong (right_at r view e x) ≡ Right i made → IsMade r e x i made
  found-by view own [] none h = record { view = view; own = own; interface = interface-is _ i _ made h; tree = tree-is _ i _ made h; clean = no-fault r.unit x.faults.faults x.faults.end none }
  found-by view own (d ∷ wrong) none h = absurd (cc)

  viewed-by : (o : Option ViewKind) → own_view e.own e.declared r.view ≡ o → viewed r o e x ≡ Right i made → IsMade r e x i made
  viewed-by None own h = absurd (cc)
  viewed-by (Some view) own h = found-by view own (faults_in r.unit x.faults) refl h

  pub ended-made : ended r e x ≡ Right i made → IsMade r e x i made
  unfolding ended
  ended-made h = viewed-by (own_view e.own e.declared r.view) refl h

-- ---- both

-- a unit in which nothing is wrong
pub record IsRight (unit : UnitKey) (tree : CompilationUnitTree) (t : Table) (i : UnitInterface) (made : UnitTree) : Type 0 where
  pub start : UnitStart
  pub started : IsStart t unit tree start
  pub made_of : IsMade (round_of tree start) (ended_text (ends_told (item_walked t tree start).0)) (item_walked t tree start).1 i made

right-by : (unit : UnitKey) (tree : CompilationUnitTree) (t : Table) (i : UnitInterface) (made : UnitTree) (o : Result UnitStart Fault) → unit_at t unit tree ≡ o → verdict_from t unit tree o ≡ Right i made → IsRight unit tree t i made
right-by unit tree t i made (Err f) e h = absurd (cc)
right-by unit tree t i made (Ok s) e h = record {
  start = s;
  started = started t unit tree s e;
  made_of = ended-made (round_of tree s) (ended_text (ends_told (item_walked t tree s).0)) (item_walked t tree s).1 i made h;
}

pub right : (unit : UnitKey) (text : List ℕ) (tree : CompilationUnitTree) (t : Table) (i : UnitInterface) (made : UnitTree) → IsFound unit text tree t i made → IsRight unit tree t i made
unfolding ada_verdict
right unit text tree t i made h = right-by unit tree t i made (unit_at t unit tree) refl h
