use Rattle.std.proofs.Common.{◌≤◌}
use Rattle.al_view_typed.specs.declared.expression.Typed.{size-Typed}
use Rattle.al_view_typed.specs.declared.expression.TypedName.{size-TypedName}
use Rattle.al_points.proofs.chosen.+choosing.Given as goal

abbrev pub invariant-chosen_in-loop-operands : goal.invariant-chosen_in-loop-operands
invariant-chosen_in-loop-operands l = size-Typed l.rest ≤ size-Typed l.fn.typed

abbrev pub decreases-chosen_in-loop-operands : goal.decreases-chosen_in-loop-operands
decreases-chosen_in-loop-operands l = size-Typed l.rest

abbrev pub invariant-in_name-loop-rest : goal.invariant-in_name-loop-rest
invariant-in_name-loop-rest l = size-TypedName l.rest ≤ size-TypedName l.fn.name

abbrev pub decreases-in_name-loop-rest : goal.decreases-in_name-loop-rest
decreases-in_name-loop-rest l = size-TypedName l.rest
