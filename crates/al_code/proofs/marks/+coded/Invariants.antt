use Rattle.std.proofs.Common.{◌≡◌, drop, map}
use Rattle.al_view_typed.specs.StatementViews.{statement_model, statements_of}
use Rattle.al_code.specs.Marks.{statements_have_code}
use Rattle.al_code.proofs.marks.+coded.Given as goal

abbrev pub invariant-have_code-loop-statement : goal.invariant-have_code-loop-statement
invariant-have_code-loop-statement l = statements_have_code (statements_of (map statement_model (drop l.statement-index l.statements))) ≡ statements_have_code (statements_of (map statement_model l.statements))
