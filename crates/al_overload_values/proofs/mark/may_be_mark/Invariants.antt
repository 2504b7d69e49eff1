use Rattle.std.proofs.Common.{◌≡◌}
use Rattle.al_overload_values.specs.Prefixes.{may_be_mark}
use Rattle.al_tree.specs.ExpressionViews.{expression_model}
use Rattle.al_overload_values.proofs.mark.may_be_mark.Given as goal

abbrev pub invariant-loop-rest : goal.invariant-loop-rest
invariant-loop-rest l = may_be_mark (expression_model l.rest) ≡ may_be_mark (expression_model l.expression)
