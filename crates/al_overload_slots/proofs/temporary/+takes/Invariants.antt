use Rattle.std.proofs.Common.{◌≡◌, ◌≤◌, drop}
use Rattle.al_view_typed.specs.ExpressionViews.{name_model, typed_model}
use Rattle.al_view_typed.specs.declared.expression.Typed.{size-Typed}
use Rattle.al_view_typed.specs.declared.expression.TypedName.{size-TypedName}
use Rattle.al_overload_slots.specs.Temporaries.{name_takes, takes}
use Rattle.al_overload_slots.proofs.Unchanged.{left_actuals, left_values}
use Rattle.al_overload_slots.proofs.temporary.+takes.Given as goal

abbrev pub invariant-takes-loop-operands : goal.invariant-takes-loop-operands
invariant-takes-loop-operands l = (takes (typed_model l.rest) ≡ takes (typed_model l.fn.typed)) × (size-Typed l.rest ≤ size-Typed l.fn.typed)

abbrev pub decreases-takes-loop-operands : goal.decreases-takes-loop-operands
decreases-takes-loop-operands l = size-Typed l.rest

abbrev pub invariant-name_takes-loop-rest : goal.invariant-name_takes-loop-rest
invariant-name_takes-loop-rest l = (name_takes (name_model l.rest) ≡ name_takes (name_model l.fn.name)) × (size-TypedName l.rest ≤ size-TypedName l.fn.name)

abbrev pub invariant-values_take-loop-value : goal.invariant-values_take-loop-value
invariant-values_take-loop-value l = left_values (drop l.value-index l.values) ≡ left_values l.values

abbrev pub invariant-actuals_take-loop-actual : goal.invariant-actuals_take-loop-actual
invariant-actuals_take-loop-actual l = left_actuals (drop l.actual-index l.actuals) ≡ left_actuals l.actuals
