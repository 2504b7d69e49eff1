use Rattle.std.proofs.Common.{Option, Some, Result}
use Rattle.al_base_fault.specs.declared.fault.Fault.{Fault}
use Rattle.al_view_typed.specs.ExpressionTrees.{TypedTree}
use Rattle.al_stmts.specs.Readings.{giving}
use Rattle.al_stmts_text.proofs.Read.{goes_on}
use Rattle.al_stmts_text.proofs.plain.exit_condition.Goals as goal

pub returns-in_ok-checked-in-Some-clause-answered : goal.returns-in_ok-checked-in-Some-clause-answered
returns-in_ok-checked-in-Some-clause-answered g c =
    rw c.in-Some.is (λ t h. let read = c.in_ok-checked-in-Some.ensures.answered t h in (read.0, goes_on (λ (k : _) (j : Result TypedTree Fault). giving k (Some j)) _ _ _ read.1))
