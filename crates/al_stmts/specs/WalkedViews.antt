-- What the program's statements and declarations that were walked over are as plain data.
use Rattle.std.specs.Prelude.{drop, map}
use Rattle.al_base_fault.specs.Judging.{map_ok}
use Rattle.al_view_typed.specs.ExpressionViews.{typed_model}
use Rattle.al_view_typed.specs.StatementViews.{statement_model}
use Rattle.al_view_typed.specs.UnitTrees.{body_model}
use Rattle.al_stmts.specs.Branches.{branches_checked}
use Rattle.al_stmts.specs.Cases.{alternatives_checked}
use Rattle.al_stmts.specs.Checking.{all_checked, one_checked}
use Rattle.al_stmts.specs.Steps.{Branching, Choosing, Inside, Part, Walked}
use Rattle.al_stmts.specs.Views.{effects_model}
use Rattle.al_stmts.specs.declared.walked_alternatives.WalkedAlternatives.{WalkedAlternatives}
use Rattle.al_stmts.specs.declared.walked_branches.WalkedBranches.{WalkedBranches}
use Rattle.al_stmts.specs.declared.inside.WalkedInside.{WalkedInside}
use Rattle.al_stmts.specs.declared.part.WalkedPart.{WalkedPart}
use Rattle.al_stmts.specs.declared.statements.WalkedStatement.{WalkedStatement}
use Rattle.al_stmts.specs.declared.statements.WalkedStatements.{WalkedStatements}

unfoldable pub one_model : WalkedStatement → Walked
one_model w = record { checked = one_checked w.checked; bodies = map body_model w.bodies.items }

unfoldable pub all_model : WalkedStatements → Walked
all_model w = record { checked = all_checked w.checked; bodies = map body_model w.bodies.items }

unfoldable pub branching_model : WalkedBranches → Branching
branching_model b = record { so_far = branches_checked b.branches; bodies = map body_model b.bodies.items }

unfoldable pub choosing_model : WalkedAlternatives → Choosing
choosing_model a = record {
  slot = a.slot;
  selector = map_ok typed_model a.selector;
  choices = drop a.next a.choices;
  so_far = alternatives_checked a.alternatives;
  bodies = map body_model a.bodies.items;
}

unfoldable pub part_model : WalkedPart → Part
part_model p = record { faults = p.faults; declarations = effects_model p.declarations; bodies = map body_model p.bodies.items }

unfoldable pub inside_model : WalkedInside → Inside
inside_model i = record {
  faults = i.faults;
  declarations = effects_model i.declarations;
  statements = map statement_model i.statements.items;
  bodies = map body_model i.bodies.items;
}
