use Rattle.std.proofs.Common.{◌≡◌}
use Rattle.al_overload_readings.specs.Texts.{is_name}
use Rattle.al_tree.specs.ExpressionViews.{expression_model}
use Rattle.al_overload_readings.proofs.text.is_name.Given as goal

abbrev pub invariant-loop-rest : goal.invariant-loop-rest
invariant-loop-rest l = is_name (expression_model l.rest) ≡ is_name (expression_model l.expression)
