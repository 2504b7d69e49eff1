-- The verdict over a unit, after the walk over it has ended.
use Rattle.std.specs.Prelude.{◌-◌, Option, Some, None, if◌then◌else◌}
use Rattle.std.specs.Global.{Vec}
use Rattle.al_base.specs.declared.unit_key.UnitKind.TheVariants.{Sub}
use Rattle.al_view.specs.Symbols.{same_kind}
use Rattle.al_view.specs.declared.view.ViewKind.{ViewKind}
use Rattle.al_view_typed.specs.UnitTrees.{UnitTree}
use Rattle.al_view_typed.specs.declared.declaration.TypedDeclaration.{TypedDeclaration}
use Rattle.al_view_typed.specs.declared.statement.TypedStatement.{TypedStatement}
use Rattle.al_view_typed.specs.declared.unit.TypedBody.{TypedBody}
use Rattle.al_query_outcome.specs.Tables.{interface_of}
use Rattle.al_stmts.specs.Steps.{Inside}
use Rattle.al_check_bounded.specs.Verdicts.{Verdict}
use Rattle.al_check_bounded.specs.Verdicts.Verdict.{Wrong, Right}
use Rattle.al_check_bounded.specs.Made.{faults_in, or_not_yet, unless_wrong}
use Rattle.al_check_bounded.specs.Said.{own_view, said}
use Rattle.al_check_bounded.specs.declared.made.WalkedUnit.{WalkedUnit}
use Rattle.al_check_bounded.specs.declared.after.EndedText.{EndedText}
use Rattle.al_check_bounded.specs.declared.after.UnitFacts.{UnitFacts}

-- the labelled unit; a subunit has no elaboration of its own
abbrev pub tree_at : UnitFacts → EndedText → Inside → UnitTree
tree_at r e inside = record {
  unit = r.unit;
  elaboration = if same_kind r.unit.kind Sub then None else Some (record { line = r.line; frame = e.progress.words.frame - 3; declarations = inside.declarations; statements = inside.statements });
  bodies = inside.bodies;
  words = e.progress.words.data;
  objects = e.progress.objects;
  flags = e.progress.flags;
  protected_objects = e.progress.protected_objects;
}

abbrev pub right_at : UnitFacts → ViewKind → EndedText → Inside → Verdict
right_at r kind e inside =
    Right (interface_of (said (record { own = e.own; kind = kind; parent = r.parent; needs_body = r.needs_body; withs = r.withs; uses_inside = e.uses; private_types = r.private_types; completions = e.completions })) e.parts)
    (tree_at r e inside)

-- the unit that was walked
abbrev pub walked_unit : UnitFacts → ViewKind → EndedText → Vec TypedDeclaration → Vec TypedStatement → Vec TypedBody → WalkedUnit
walked_unit r kind e declarations statements bodies = record {
  unit = r.unit;
  properties = said (record { own = e.own; kind = kind; parent = r.parent; needs_body = r.needs_body; withs = r.withs; uses_inside = e.uses; private_types = r.private_types; completions = e.completions });
  parts = e.parts;
  line = r.line;
  frame = e.progress.words.frame - 3;
  words = e.progress.words.data;
  objects = e.progress.objects;
  flags = e.progress.flags;
  protected_objects = e.progress.protected_objects;
  declarations = declarations;
  statements = statements;
  bodies = bodies;
}

-- by its own view; a unit that has no view and no error can't be compiled yet
abbrev pub viewed : UnitFacts → Option ViewKind → EndedText → Inside → Verdict
viewed r None e inside = Wrong (or_not_yet r.unit (faults_in r.unit inside.faults))
viewed r (Some kind) e inside = unless_wrong (faults_in r.unit inside.faults) (right_at r kind e inside)

unfoldable pub ended : UnitFacts → EndedText → Inside → Verdict
ended r e inside = viewed r (own_view e.own e.declared r.view) e inside
