use Rattle.std.proofs.Common.{◌≡◌}
use Rattle.al_overload_lookup.specs.Places.{first_place}
use Rattle.al_tree.specs.ExpressionViews.{expression_model}
use Rattle.al_overload_lookup.proofs.places.first_place.Given as goal

abbrev pub invariant-loop-rest : goal.invariant-loop-rest
invariant-loop-rest l = first_place (expression_model l.rest) ≡ first_place (expression_model l.expression)
