use Rattle.std.proofs.Common.{◌≡◌, ◌++◌, ◌∙◌, ap, arith, false, refl, rules}
use Rattle.std.specs.List.{list_all}
use Rattle.al_view_typed.specs.ExpressionTrees.{ValuesTree as values_trees, ActualsTree as actuals_trees}
use Rattle.al_view_typed.specs.ExpressionViews.{actual_model, typed_model, value_model}
use Rattle.al_view_typed.specs.Uses.{actual_uses, actuals_uses, typed_uses, value_uses, values_uses}
use Rattle.al_view_typed.proofs.ExpressionsMade.{binary_made, membership_made, short_circuit_made}
use Rattle.al_view_typed.specs.declared.expression.Actual.TheViews.{sized-Component, sized-Indexed}
use Rattle.al_view_typed.specs.declared.expression.TypedName.{size-TypedName}
use Rattle.al_check_promises.proofs.Prefixes.{component_passes, indexed_passes}
use Rattle.al_check_promises.proofs.Listed.{all_listed, both, ends, first_fails, stops}
use Rattle.al_check_promises.proofs.expressions.+uses.Goals as goal

pub values_pass-returns-then-not-value_passes : goal.values_pass-returns-then-not-value_passes
values_pass-returns-then-not-value_passes g t c =
    let p = g.T.LinkTest.passing c.args.test.now in
    stops (λ v. list_all p (value_uses (value_model v))) c.args.values.now c.loop-value.value-index c.value-item.result c.value_passes.result _
    c.value-item.is c.loop-value-test.true c.value_passes.ensures c.if-not-value_passes.true (all_listed p values_trees.MoreValues values_trees.NoValue value_uses values_uses value_model refl (λ x y. refl) c.args.values.now)

pub values_pass-returns : goal.values_pass-returns
values_pass-returns g t c =
    let p = g.T.LinkTest.passing c.args.test.now in
    ends (λ v. list_all p (value_uses (value_model v))) c.args.values.now c.loop-value.value-index _
    c.loop-value-test.false c.loop-value.invariant (all_listed p values_trees.MoreValues values_trees.NoValue value_uses values_uses value_model refl (λ x y. refl) c.args.values.now)

pub actuals_pass-returns-then-not-actual_passes : goal.actuals_pass-returns-then-not-actual_passes
actuals_pass-returns-then-not-actual_passes g t c =
    let p = g.T.LinkTest.passing c.args.test.now in
    stops (λ a. list_all p (actual_uses (actual_model a))) c.args.actuals.now c.loop-actual.actual-index c.actual-item.result c.actual_passes.result _
    c.actual-item.is c.loop-actual-test.true c.actual_passes.ensures c.if-not-actual_passes.true (all_listed p actuals_trees.MoreActuals actuals_trees.NoActual actual_uses actuals_uses actual_model refl (λ x y. refl) c.args.actuals.now)

pub actuals_pass-returns : goal.actuals_pass-returns
actuals_pass-returns g t c =
    let p = g.T.LinkTest.passing c.args.test.now in
    ends (λ a. list_all p (actual_uses (actual_model a))) c.args.actuals.now c.loop-actual.actual-index _
    c.loop-actual-test.false c.loop-actual.invariant (all_listed p actuals_trees.MoreActuals actuals_trees.NoActual actual_uses actuals_uses actual_model refl (λ x y. refl) c.args.actuals.now)

pub form_passes-returns-then-typed_passes : goal.form_passes-returns-then-typed_passes
form_passes-returns-then-typed_passes g t c =
    let p = g.T.LinkTest.passing c.args.test.now in
    let one : c.typed_passes-in-Binary.result ≡ list_all p (typed_uses (typed_model c.in-Binary.left.value)) = search rules in
    let two : c.typed_passes-then-typed_passes.result ≡ list_all p (typed_uses (typed_model c.in-Binary.right.value)) = search rules in
    rw c.in-Binary.is (rw (binary_made c.in-Binary.field-0 c.in-Binary.left c.in-Binary.right) (both p (typed_uses (typed_model c.in-Binary.left.value)) (typed_uses (typed_model c.in-Binary.right.value)) _ _ one c.if-typed_passes.true two))

pub form_passes-returns-else-typed_passes : goal.form_passes-returns-else-typed_passes
form_passes-returns-else-typed_passes g t c =
    let p = g.T.LinkTest.passing c.args.test.now in
    let one : c.typed_passes-in-Binary.result ≡ list_all p (typed_uses (typed_model c.in-Binary.left.value)) = search rules in
    rw c.in-Binary.is (rw (binary_made c.in-Binary.field-0 c.in-Binary.left c.in-Binary.right) (c.if-typed_passes.false ∙ first_fails p (typed_uses (typed_model c.in-Binary.left.value)) (typed_uses (typed_model c.in-Binary.right.value)) _ one c.if-typed_passes.false))

pub form_passes-returns-then-typed_passes-2 : goal.form_passes-returns-then-typed_passes-2
form_passes-returns-then-typed_passes-2 g t c =
    let p = g.T.LinkTest.passing c.args.test.now in
    let one : c.typed_passes-in-ShortCircuit.result ≡ list_all p (typed_uses (typed_model c.in-ShortCircuit.left.value)) = search rules in
    let two : c.typed_passes-then-typed_passes-2.result ≡ list_all p (typed_uses (typed_model c.in-ShortCircuit.right.value)) = search rules in
    rw c.in-ShortCircuit.is (rw (short_circuit_made c.in-ShortCircuit.field-0 c.in-ShortCircuit.left c.in-ShortCircuit.right) (both p (typed_uses (typed_model c.in-ShortCircuit.left.value)) (typed_uses (typed_model c.in-ShortCircuit.right.value)) _ _ one c.if-typed_passes-2.true two))

pub form_passes-returns-else-typed_passes-2 : goal.form_passes-returns-else-typed_passes-2
form_passes-returns-else-typed_passes-2 g t c =
    let p = g.T.LinkTest.passing c.args.test.now in
    let one : c.typed_passes-in-ShortCircuit.result ≡ list_all p (typed_uses (typed_model c.in-ShortCircuit.left.value)) = search rules in
    rw c.in-ShortCircuit.is (rw (short_circuit_made c.in-ShortCircuit.field-0 c.in-ShortCircuit.left c.in-ShortCircuit.right) (c.if-typed_passes-2.false ∙ first_fails p (typed_uses (typed_model c.in-ShortCircuit.left.value)) (typed_uses (typed_model c.in-ShortCircuit.right.value)) _ one c.if-typed_passes-2.false))

pub form_passes-returns-then-not-typed_passes : goal.form_passes-returns-then-not-typed_passes
form_passes-returns-then-not-typed_passes g t c =
    let p = g.T.LinkTest.passing c.args.test.now in
    let one : c.typed_passes-in-Membership.result ≡ list_all p (typed_uses (typed_model c.in-Membership.value.value)) = search rules in
    rw c.in-Membership.is (rw (membership_made c.in-Membership.value c.in-Membership.is_negated c.in-Membership.low c.in-Membership.high c.in-Membership.slot) (first_fails p (typed_uses (typed_model c.in-Membership.value.value) ++ typed_uses (typed_model c.in-Membership.low.value)) (typed_uses (typed_model c.in-Membership.high.value)) false (first_fails p (typed_uses (typed_model c.in-Membership.value.value)) (typed_uses (typed_model c.in-Membership.low.value)) _ one c.if-not-typed_passes.true) refl))

pub form_passes-returns-then-typed_passes-3 : goal.form_passes-returns-then-typed_passes-3
form_passes-returns-then-typed_passes-3 g t c =
    let p = g.T.LinkTest.passing c.args.test.now in
    let one : c.typed_passes-in-Membership.result ≡ list_all p (typed_uses (typed_model c.in-Membership.value.value)) = search rules in
    let two : c.typed_passes-in-Membership-2.result ≡ list_all p (typed_uses (typed_model c.in-Membership.low.value)) = search rules in
    let three : c.typed_passes-then-typed_passes-3.result ≡ list_all p (typed_uses (typed_model c.in-Membership.high.value)) = search rules in
    rw c.in-Membership.is (rw (membership_made c.in-Membership.value c.in-Membership.is_negated c.in-Membership.low c.in-Membership.high c.in-Membership.slot)
    (both p (typed_uses (typed_model c.in-Membership.value.value) ++ typed_uses (typed_model c.in-Membership.low.value)) (typed_uses (typed_model c.in-Membership.high.value)) _ _ (both p (typed_uses (typed_model c.in-Membership.value.value)) (typed_uses (typed_model c.in-Membership.low.value)) _ _ one c.if-not-typed_passes.false two) c.if-typed_passes-3.true three))

pub form_passes-returns-else-typed_passes-3 : goal.form_passes-returns-else-typed_passes-3
form_passes-returns-else-typed_passes-3 g t c =
    let p = g.T.LinkTest.passing c.args.test.now in
    let one : c.typed_passes-in-Membership.result ≡ list_all p (typed_uses (typed_model c.in-Membership.value.value)) = search rules in
    let two : c.typed_passes-in-Membership-2.result ≡ list_all p (typed_uses (typed_model c.in-Membership.low.value)) = search rules in
    rw c.in-Membership.is (rw (membership_made c.in-Membership.value c.in-Membership.is_negated c.in-Membership.low c.in-Membership.high c.in-Membership.slot)
    (c.if-typed_passes-3.false ∙ first_fails p (typed_uses (typed_model c.in-Membership.value.value) ++ typed_uses (typed_model c.in-Membership.low.value)) (typed_uses (typed_model c.in-Membership.high.value)) _ (both p (typed_uses (typed_model c.in-Membership.value.value)) (typed_uses (typed_model c.in-Membership.low.value)) _ _ one c.if-not-typed_passes.false two) c.if-typed_passes-3.false))

pub name_passes-loop-rest-preserved-in-Component : goal.name_passes-loop-rest-preserved-in-Component
name_passes-loop-rest-preserved-in-Component g t c =
    let p = g.T.LinkTest.passing c.args.test.now in
    let part : c.deref-rest.result.now ≡ c.in-Component.whole.value = search rules in (
      component_passes p c.loop-rest.rest.now c.deref-rest.result.now c.in-Component.whole c.in-Component.offset c.in-Component.is part ∙ c.loop-rest.invariant.0,
      omega (arith, ap size-TypedName part, ap size-TypedName c.in-Component.is, sized-Component c.in-Component.whole c.in-Component.offset, c.loop-rest.invariant.1),
    )

pub name_passes-loop-rest-preserved : goal.name_passes-loop-rest-preserved
name_passes-loop-rest-preserved g t c =
    let p = g.T.LinkTest.passing c.args.test.now in
    let part : c.deref-rest-in-Indexed.result.now ≡ c.in-Indexed.array.value = search rules in
    let inner : c.typed_passes.result ≡ list_all p (typed_uses (typed_model c.in-Indexed.index.value)) = search rules in (
      indexed_passes p c.loop-rest.rest.now c.deref-rest-in-Indexed.result.now c.in-Indexed.array c.in-Indexed.index c.in-Indexed.bounds c.in-Indexed.words c.typed_passes.result c.in-Indexed.is part inner c.if-not-typed_passes.false ∙ c.loop-rest.invariant.0,
      omega (arith, ap size-TypedName part, ap size-TypedName c.in-Indexed.is, sized-Indexed c.in-Indexed.array c.in-Indexed.index c.in-Indexed.bounds c.in-Indexed.words, c.loop-rest.invariant.1),
    )
