-- The verdict over an Ada unit, under a table of answers.
use Rattle.std.specs.Prelude.{ℕ, List, [], ◌∷◌, not, None, Result, Ok, Err, if◌then◌else◌}
use Rattle.al_base.specs.declared.unit_key.UnitKey.{UnitKey}
use Rattle.al_tree_syntax.specs.UnitTrees.{CompilationUnitTree}
use Rattle.al_unit_header.specs.PrivateTypes.{private_types}
use Rattle.al_unit_header.specs.Units.{header_of}
use Rattle.al_unit_graph.specs.Headers.{Header}
use Rattle.al_query.specs.Reads.{Table}
use Rattle.al_base_fault.specs.declared.fault.Fault.{Fault}
use Rattle.al_stmts.specs.declared.fault_list.FaultList.{FaultList}
use Rattle.al_scope.specs.declared.seen_hiding.PrivateName.{PrivateName}
use Rattle.al_scope.specs.declared.own.OwnText.{OwnText}
use Rattle.al_view.specs.Named.{Declarations}
use Rattle.al_stmts.specs.Steps.{Inside}
use Rattle.al_stmts.specs.Units.{unit_walked}
use Rattle.al_check_bounded.specs.Verdicts.{Verdict}
use Rattle.al_check_bounded.specs.Verdicts.Verdict.{Wrong}
use Rattle.al_check_start.specs.PrivateNames.{names_known}
use Rattle.al_check_start.specs.Starts.{units_known}
use Rattle.al_check_start.specs.UnitsAt.{unit_at}
use Rattle.al_check_start.specs.declared.unit.UnitStart.{UnitStart}
use Rattle.al_check_here.specs.Ends.{ends_of, ends_told}
use Rattle.al_check_here.specs.Stacks.{is_bare}
use Rattle.al_check_here.specs.Standings.{begun_at}
use Rattle.al_check_here.specs.declared.ends.Ends.{Ends}
use Rattle.al_check_here.specs.declared.state.CheckState.{CheckState}
use Rattle.al_check_here.specs.declared.state.UnitText.{UnitText}
use Rattle.al_check_reading.specs.Ada.{ada}
use Rattle.al_check_bounded.specs.Constants.{predefined, the_memory}
use Rattle.al_check_bounded.specs.Ended.{ended}
use Rattle.al_check_bounded.specs.Lines.{item_line}
use Rattle.al_check_bounded.specs.Made.{fault_in}
use Rattle.al_check_bounded.specs.declared.after.EndedText.{EndedText}
use Rattle.al_check_bounded.specs.declared.after.UnitFacts.{UnitFacts}

-- ---- the place at which the item of a unit with this start begins

-- what stays the same during its check: the predefined units, the packages that are mentioned, its header, the private types that it hides, and what
-- its private part was found to declare
abbrev pub text_of : List UnitKey → OwnText → List PrivateName → Declarations → UnitText
text_of packages own hidden private_part = record {
  labeller = record { alloc = the_memory; predefined = predefined; own = None };
  packages = packages;
  own = own;
  hidden = hidden;
  private_part = private_part;
}

-- the walk over the item doesn't look at the units that its with clauses name
abbrev pub without_withs : OwnText → OwnText
without_withs own = record own { withs = [] }

abbrev pub standing_of : Declarations → CompilationUnitTree → UnitStart → CheckState
standing_of private_part tree s = begun_at (text_of s.packages (without_withs s.own) s.hidden private_part) s.scope s.progress s.uncompleted

-- what is known of it before the walk over its item
abbrev pub round_of : CompilationUnitTree → UnitStart → UnitFacts
round_of tree s =
    record { unit = s.own.unit; needs_body = (header_of tree).needs_body; line = item_line tree.item; parent = s.parent; withs = s.own.withs; view = s.view; private_types = private_types tree.item }

-- ---- the verdict

-- what the walk left, without what stayed the same during it
abbrev pub ended_text : Ends → EndedText
ended_text e = record { own = e.unit.own; progress = e.progress; completions = e.completions; parts = e.parts; uses = e.uses; declared = e.own }

-- after the end of the item: all its errors; or, if it has none, what the unit answers to others, with its labelled tree
abbrev pub ended_after : UnitFacts → CheckState × Inside → Verdict
ended_after r walked = ended r (ended_text (ends_told walked.0)) walked.1

-- the walk over the item of a unit with this start, by the analyzer of Ada units
abbrev pub item_walked_with : Table → Declarations → CompilationUnitTree → UnitStart → CheckState × Inside
item_walked_with t private_part tree s = unit_walked (ada t) (standing_of private_part tree s) tree.item

-- what its private part declares, for which the unit is walked before it is known what that declares
abbrev pub private_part_found : Table → CompilationUnitTree → UnitStart → Declarations
private_part_found t tree s = (ends_of (item_walked_with t [] tree s).0).parts.private_part

abbrev pub private_part_at : Table → CompilationUnitTree → Result UnitStart Fault → Declarations
private_part_at t tree (Err f) = []
private_part_at t tree (Ok s) = private_part_found t tree s

-- this is wanted if the visible part has private types: their values have the words of their full declarations, which come after declarations that
-- use the types
abbrev pub private_part_of : Table → CompilationUnitTree → Result UnitStart Fault → Declarations
private_part_of t tree start = if not (is_bare (private_types tree.item)) then private_part_at t tree start else []

abbrev pub item_walked : Table → CompilationUnitTree → UnitStart → CheckState × Inside
item_walked t tree s = item_walked_with t (private_part_of t tree (Ok s)) tree s

-- its verdict
abbrev pub item_verdict : Table → CompilationUnitTree → UnitStart → Verdict
item_verdict t tree s = ended_after (round_of tree s) (item_walked t tree s)

-- its errors
abbrev pub item_faults : Table → CompilationUnitTree → UnitStart → FaultList
item_faults t tree s = (item_walked t tree s).1.faults

-- after its start: an error of the context clause, or else of the defining name, is reported alone, as the item isn't looked at then
abbrev pub verdict_with : Table → Declarations → UnitKey → CompilationUnitTree → Result UnitStart Fault → Verdict
verdict_with t private_part unit tree (Err f) = Wrong (fault_in unit f ∷ [])
verdict_with t private_part unit tree (Ok s) = ended_after (round_of tree s) (item_walked_with t private_part tree s)

abbrev pub verdict_from : Table → UnitKey → CompilationUnitTree → Result UnitStart Fault → Verdict
verdict_from t unit tree start = verdict_with t (private_part_of t tree start) unit tree start

-- ---- a unit

-- the units that may be asked for it
abbrev pub ada_units : UnitKey → Header → Table → List UnitKey
ada_units unit h t = units_known t unit h

-- the names that may be asked for, beside the words of its source: the private types of the units that enclose it
abbrev pub ada_names : UnitKey → Header → Table → List (List ℕ)
ada_names unit h t = names_known t unit h

-- its verdict
unfoldable pub ada_verdict : UnitKey → List ℕ → CompilationUnitTree → Table → Verdict
ada_verdict unit text tree t = verdict_from t unit tree (unit_at t unit tree)
