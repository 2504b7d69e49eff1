use Rattle.std.proofs.Common.{◌≤◌}
use Rattle.al_tree.specs.declared.expression.Expression.{size-Expression}
use Rattle.al_tree.proofs.expression.+drop_expression.Given as goal

abbrev pub invariant-Expression::drop-loop-self : goal.invariant-Expression::drop-loop-self
invariant-Expression::drop-loop-self l = size-Expression l.self ≤ size-Expression l.initial.self

abbrev pub decreases-Expression::drop-loop-self : goal.decreases-Expression::drop-loop-self
decreases-Expression::drop-loop-self l = size-Expression l.self
