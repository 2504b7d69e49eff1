use Rattle.std.proofs.Common.{◌≡◌, rules, arith, sym, ap, ◌∙◌}
use Rattle.al_view_typed.specs.ExpressionViews.{typed_model}
use Rattle.al_view_typed.specs.declared.expression.Actual.TheViews.{sized-Component, sized-Indexed}
use Rattle.al_view_typed.specs.declared.expression.TypedName.{size-TypedName}
use Rattle.al_overload_slots.specs.Temporaries.{takes}
use Rattle.al_overload_slots.proofs.Unchanged.{actual_passed, component_takes, indexed_takes, no_actual_left, no_value_left, value_passed}
use Rattle.al_overload_slots.proofs.temporary.+takes.Goals as goal

pub values_take-loop-value-preserved : goal.values_take-loop-value-preserved
values_take-loop-value-preserved t c = value_passed c.args.values.now c.loop-value.value-index c.value-item.result _ _ (omega arith) c.value-item.is (sym c.value_takes.ensures ∙ c.if-value_takes.false) c.loop-value.invariant

pub values_take-returns : goal.values_take-returns
values_take-returns t c = no_value_left c.args.values.now c.loop-value.value-index _ (omega arith) c.loop-value.invariant

pub values_take-returns-then-value_takes : goal.values_take-returns-then-value_takes
values_take-returns-then-value_takes t c = value_passed c.args.values.now c.loop-value.value-index c.value-item.result _ _ (omega arith) c.value-item.is (sym c.value_takes.ensures ∙ c.if-value_takes.true) c.loop-value.invariant

pub actuals_take-loop-actual-preserved : goal.actuals_take-loop-actual-preserved
actuals_take-loop-actual-preserved t c = actual_passed c.args.actuals.now c.loop-actual.actual-index c.actual-item.result _ _ (omega arith) c.actual-item.is (sym c.actual_takes.ensures ∙ c.if-actual_takes.false) c.loop-actual.invariant

pub actuals_take-returns : goal.actuals_take-returns
actuals_take-returns t c = no_actual_left c.args.actuals.now c.loop-actual.actual-index _ (omega arith) c.loop-actual.invariant

pub actuals_take-returns-then-actual_takes : goal.actuals_take-returns-then-actual_takes
actuals_take-returns-then-actual_takes t c = actual_passed c.args.actuals.now c.loop-actual.actual-index c.actual-item.result _ _ (omega arith) c.actual-item.is (sym c.actual_takes.ensures ∙ c.if-actual_takes.true) c.loop-actual.invariant

pub name_takes-loop-rest-preserved-in-Component : goal.name_takes-loop-rest-preserved-in-Component
name_takes-loop-rest-preserved-in-Component t c =
    let part : c.deref-rest.result.now ≡ c.in-Component.whole.value = search rules in (
      component_takes c.loop-rest.rest.now c.deref-rest.result.now c.in-Component.whole c.in-Component.offset c.in-Component.is part ∙ c.loop-rest.invariant.0,
      omega (arith, ap size-TypedName part, ap size-TypedName c.in-Component.is, sized-Component c.in-Component.whole c.in-Component.offset, c.loop-rest.invariant.1),
    )

pub name_takes-loop-rest-preserved : goal.name_takes-loop-rest-preserved
name_takes-loop-rest-preserved t c =
    let part : c.deref-rest-in-Indexed.result.now ≡ c.in-Indexed.array.value = search rules in
    let inner : c.takes.result ≡ takes (typed_model c.in-Indexed.index.value) = search rules in (
      indexed_takes c.loop-rest.rest.now c.deref-rest-in-Indexed.result.now c.in-Indexed.array c.in-Indexed.index c.in-Indexed.bounds c.in-Indexed.words c.in-Indexed.is part (sym inner ∙ c.if-takes.false) ∙ c.loop-rest.invariant.0,
      omega (arith, ap size-TypedName part, ap size-TypedName c.in-Indexed.is, sized-Indexed c.in-Indexed.array c.in-Indexed.index c.in-Indexed.bounds c.in-Indexed.words, c.loop-rest.invariant.1),
    )
