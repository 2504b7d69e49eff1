-- Which errors the check of an Ada unit reports, and to which units it gives an interface.
use Rattle.std.specs.Prelude.{◌≡◌, ◌≢◌, ℕ, List, [], ◌∷◌, Ok, Err}
use Rattle.al_base.specs.declared.unit_key.UnitKey.{UnitKey}
use Rattle.al_tree_syntax.specs.UnitTrees.{CompilationUnitTree}
use Rattle.al_query.specs.Reads.{Table}
use Rattle.al_base_fault.specs.declared.fault.Fault.{Fault}
use Rattle.al_stmts.specs.FaultLists.{all_faults}
use Rattle.al_view_typed.specs.UnitTrees.{UnitTree}
use Rattle.al_query_outcome.specs.declared.interface.UnitInterface.{UnitInterface}
use Rattle.al_check_bounded.specs.Verdicts.Verdict.{Wrong, Right}
use Rattle.al_check_start.specs.UnitsAt.{unit_at}
use Rattle.al_check_start.specs.declared.unit.UnitStart.{UnitStart}
use Rattle.al_check_bounded.specs.Made.{fault_in, faults_in}
use Rattle.al_check.specs.Ada.{ada_verdict, item_faults}

-- an error of the start is reported, alone
abbrev pub StartFaultsAreReported : Type 0
StartFaultsAreReported = (unit : UnitKey) (text : List ℕ) (tree : CompilationUnitTree) (t : Table) (f : Fault) → unit_at t unit tree ≡ Err f
    → ada_verdict unit text tree t ≡ Wrong (fault_in unit f ∷ [])

-- all errors of an item are reported
abbrev pub ItemFaultsAreReported : Type 0
ItemFaultsAreReported = (unit : UnitKey) (text : List ℕ) (tree : CompilationUnitTree) (t : Table) (s : UnitStart) → unit_at t unit tree ≡ Ok s
    → all_faults (item_faults t tree s) ≢ [] → ada_verdict unit text tree t ≡ Wrong (faults_in unit (item_faults t tree s))

-- only a unit without an error in its start and in its item has an interface
abbrev pub SoundUnitsHaveNoFault : Type 0
SoundUnitsHaveNoFault = (unit : UnitKey) (text : List ℕ) (tree : CompilationUnitTree) (t : Table) (i : UnitInterface) (made : UnitTree) → ada_verdict unit text tree t ≡ Right i made
    → (s : UnitStart) × (unit_at t unit tree ≡ Ok s) × (all_faults (item_faults t tree s) ≡ [])
