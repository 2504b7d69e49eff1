use Rattle.std.proofs.Common.{◌≡◌, drop, map}
use Rattle.al_code.specs.Codeless.{are_codeless}
use Rattle.al_view_typed.specs.ExpressionViews.{value_model, values_of}
use Rattle.al_code.proofs.codeless.+codeless.Given as goal

abbrev pub invariant-are_codeless-loop-value : goal.invariant-are_codeless-loop-value
invariant-are_codeless-loop-value l = are_codeless (values_of (map value_model (drop l.value-index l.values))) ≡ are_codeless (values_of (map value_model l.values))
