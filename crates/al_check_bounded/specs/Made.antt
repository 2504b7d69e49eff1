-- The verdict over a unit, from what the walk left.
use Rattle.std.specs.Prelude.{List, [], ◌∷◌, map, Some, None, if◌then◌else◌}
use Rattle.al_base.specs.Batch.{key_of}
use Rattle.al_base.specs.FileNames.{file_name_of}
use Rattle.al_base.specs.declared.diagnostic.Diagnostic.{Diagnostic}
use Rattle.al_base.specs.declared.unit_key.UnitKey.{UnitKey}
use Rattle.al_base.specs.declared.unit_key.UnitKind.TheVariants.{Sub}
use Rattle.al_view.specs.Symbols.{same_kind}
use Rattle.al_base_fault.specs.CheckRules.{rule_number}
use Rattle.al_base_fault.specs.declared.fault.Fault.{Fault}
use Rattle.al_stmts.specs.FaultLists.{all_faults}
use Rattle.al_stmts.specs.declared.fault_list.FaultList.{FaultList}
use Rattle.al_view_typed.specs.DeclarationTrees.{declaration_model}
use Rattle.al_view_typed.specs.StatementViews.{statement_model}
use Rattle.al_view_typed.specs.UnitTrees.{ElaborationTree, UnitTree, body_model}
use Rattle.al_query_outcome.specs.Tables.{interface_of}
use Rattle.al_check_promises.specs.SelfChecks.{not_checked}
use Rattle.al_check_bounded.specs.Verdicts.{Verdict}
use Rattle.al_check_bounded.specs.Verdicts.Verdict.{Wrong, Right}
use Rattle.al_check_bounded.specs.declared.made.WalkedUnit.{WalkedUnit}

-- an error in the unit's own file
abbrev pub fault_in : UnitKey → Fault → Diagnostic
fault_in unit f = record { file = file_name_of (key_of unit); place = f.place; code = rule_number f.rule }

abbrev pub faults_in : UnitKey → FaultList → List Diagnostic
faults_in unit faults = map (fault_in unit) (all_faults faults)

-- E700, if there is no error
abbrev pub or_not_yet : UnitKey → List Diagnostic → List Diagnostic
or_not_yet unit [] = not_checked unit
or_not_yet unit (d ∷ ds) = d ∷ ds

-- what is done when the unit is elaborated
abbrev pub elaboration_of : WalkedUnit → ElaborationTree
elaboration_of w = record { line = w.line; frame = w.frame; declarations = map declaration_model w.declarations.items; statements = map statement_model w.statements.items }

-- the labelled unit; a subunit has no elaboration of its own (ARM 10.2(9))
abbrev pub tree_of : WalkedUnit → UnitTree
tree_of w = record {
  unit = w.unit;
  elaboration = if same_kind w.unit.kind Sub then None else Some (elaboration_of w);
  bodies = map body_model w.bodies.items;
  words = w.words;
  objects = w.objects;
  flags = w.flags;
  protected_objects = w.protected_objects;
}

abbrev pub made : WalkedUnit → Verdict
made w = Right (interface_of w.properties w.parts) (tree_of w)

-- the errors, if there are any; else the unit
abbrev pub unless_wrong : List Diagnostic → Verdict → Verdict
unless_wrong [] v = v
unless_wrong (d ∷ ds) v = Wrong (d ∷ ds)

unfoldable pub finding_of : FaultList → WalkedUnit → Verdict
finding_of faults w = unless_wrong (faults_in w.unit faults) (made w)
