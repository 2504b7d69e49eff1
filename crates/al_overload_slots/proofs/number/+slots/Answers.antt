use Rattle.std.proofs.Common.{◌≡◌, ◌<◌, [], map, take, List, length, ap, refl, subst, sym, ◌∙◌, arith, rules}
use Rattle.std.specs.Prelude.{fold}
use Rattle.std.proofs.lemmas.List.{with_items_is}
use Rattle.al_view_typed.specs.ExpressionViews.{actual_model, actuals_of, name_model, typed_model, value_model, values_of}
use Rattle.al_view_typed.specs.declared.expression.Typed.{Typed, size-Typed}
use Rattle.al_view_typed.specs.declared.expression.TypedName.{TypedName, size-TypedName}
use Rattle.al_overload_slots.specs.Slots.{after, next_word, numbered}
use Rattle.al_overload_slots.proofs.Changed.{binary_changed, converted_changed, membership_changed, others_changed, short_circuit_changed, unary_changed}
use Rattle.al_view_typed.specs.declared.expression.Actual.{Actual}
use Rattle.al_view_typed.specs.declared.expression.CheckedValue.{CheckedValue}
use Rattle.al_overload_slots.proofs.Gathered.{actuals_end_tree, actuals_end_word, values_end_tree, values_end_word, with_actual, with_value}
use Rattle.al_overload_slots.proofs.Unchanged.{stays}
use Rattle.al_overload_slots.proofs.TurnedNames.{IsNumbered, IsUp, begins_up, component_numbered, ends_up, index_below, indexed_numbered, is_down, is_up, next_up, nothing_passed, object_numbered}
use Rattle.al_overload_slots.proofs.TurnedOperands as operands
use Rattle.al_overload_slots.proofs.number.+slots.Goals as goal

pub number_values-returns-clause-word : goal.number_values-returns-clause-word
number_values-returns-clause-word t c =
    let e : c.deref_mut-value-items.result.now ≡ c.args.values.now.items = c.deref_mut-value-items.ensures.value in
    values_end_word c.args.word c.loop-value.after c.loop-value.value-index c.loop-value.value-items c.args.values.now.items
    (subst (λ (zs : List CheckedValue). (c.loop-value.after, map value_model (take c.loop-value.value-index c.loop-value.value-items)) ≡ fold with_value (c.args.word, []) (take c.loop-value.value-index zs)) e c.loop-value.invariant.1)
    (omega (arith, ap length e))

pub number_values-returns-clause-tree : goal.number_values-returns-clause-tree
number_values-returns-clause-tree t c =
    let e : c.deref_mut-value-items.result.now ≡ c.args.values.now.items = c.deref_mut-value-items.ensures.value in
    ap (λ (zs : List CheckedValue). values_of (map value_model zs)) (with_items_is c.args.values.now c.loop-value.value-items (omega (arith, ap length e, c.args.values.now.ok.0, c.loop-value.invariant.0.0)))
    ∙ values_end_tree c.args.word c.loop-value.after c.loop-value.value-index c.loop-value.value-items c.args.values.now.items
    (subst (λ (zs : List CheckedValue). (c.loop-value.after, map value_model (take c.loop-value.value-index c.loop-value.value-items)) ≡ fold with_value (c.args.word, []) (take c.loop-value.value-index zs)) e c.loop-value.invariant.1)
    (omega (arith, ap length e)) (omega (arith, ap length e, c.loop-value.invariant.0.0))

pub number_actuals-returns-clause-word : goal.number_actuals-returns-clause-word
number_actuals-returns-clause-word t c =
    let e : c.deref_mut-actual-items.result.now ≡ c.args.actuals.now.items = c.deref_mut-actual-items.ensures.value in
    actuals_end_word c.args.word c.loop-actual.after c.loop-actual.actual-index c.loop-actual.actual-items c.args.actuals.now.items
    (subst (λ (zs : List Actual). (c.loop-actual.after, map actual_model (take c.loop-actual.actual-index c.loop-actual.actual-items)) ≡ fold with_actual (c.args.word, []) (take c.loop-actual.actual-index zs)) e c.loop-actual.invariant.1)
    (omega (arith, ap length e))

pub number_actuals-returns-clause-tree : goal.number_actuals-returns-clause-tree
number_actuals-returns-clause-tree t c =
    let e : c.deref_mut-actual-items.result.now ≡ c.args.actuals.now.items = c.deref_mut-actual-items.ensures.value in
    ap (λ (zs : List Actual). actuals_of (map actual_model zs)) (with_items_is c.args.actuals.now c.loop-actual.actual-items (omega (arith, ap length e, c.args.actuals.now.ok.0, c.loop-actual.invariant.0.0)))
    ∙ actuals_end_tree c.args.word c.loop-actual.after c.loop-actual.actual-index c.loop-actual.actual-items c.args.actuals.now.items
    (subst (λ (zs : List Actual). (c.loop-actual.after, map actual_model (take c.loop-actual.actual-index c.loop-actual.actual-items)) ≡ fold with_actual (c.args.word, []) (take c.loop-actual.actual-index zs)) e c.loop-actual.invariant.1)
    (omega (arith, ap length e)) (omega (arith, ap length e, c.loop-actual.invariant.0.0))

pub number_form-returns-in-Unary-clause-tree : goal.number_form-returns-in-Unary-clause-tree
number_form-returns-in-Unary-clause-tree t c = search (rules, unary_changed)

pub number_form-returns-in-Binary-clause-tree : goal.number_form-returns-in-Binary-clause-tree
number_form-returns-in-Binary-clause-tree t c =
    let a : typed_model c.number_left-word.new.operand.value ≡ numbered c.args.word (typed_model c.in-Binary.left.value) = search rules in
    let w : c.number_left-word.result ≡ after c.args.word (typed_model c.in-Binary.left.value) = search rules in
    let b : typed_model c.number_operand-in-Binary.new.operand.value ≡ numbered c.number_left-word.result (typed_model c.in-Binary.right.value) = search rules in
    search (rules, binary_changed)

pub number_form-returns-in-ShortCircuit-clause-tree : goal.number_form-returns-in-ShortCircuit-clause-tree
number_form-returns-in-ShortCircuit-clause-tree t c = search (rules, short_circuit_changed)

pub number_form-returns-in-Membership-clause-tree : goal.number_form-returns-in-Membership-clause-tree
number_form-returns-in-Membership-clause-tree t c =
    let n : c.next.result ≡ next_word c.args.word = search rules in
    let a : typed_model c.number_operand-word.new.operand.value ≡ numbered c.next.result (typed_model c.in-Membership.value.value) = search rules in
    let w : c.number_operand-word.result ≡ after c.next.result (typed_model c.in-Membership.value.value) = search rules in
    let b : typed_model c.number_operand-word-in-Membership.new.operand.value ≡ numbered c.number_operand-word.result (typed_model c.in-Membership.low.value) = search rules in
    let v : c.number_operand-word-in-Membership.result ≡ after c.number_operand-word.result (typed_model c.in-Membership.low.value) = search rules in
    let d : typed_model c.number_operand-in-Membership.new.operand.value ≡ numbered c.number_operand-word-in-Membership.result (typed_model c.in-Membership.high.value) = search rules in
    search (rules, membership_changed)

pub number_form-returns-in-Converted-clause-tree : goal.number_form-returns-in-Converted-clause-tree
number_form-returns-in-Converted-clause-tree t c = search (rules, converted_changed)

pub number_form-returns-in-Others-clause-tree : goal.number_form-returns-in-Others-clause-tree
number_form-returns-in-Others-clause-tree t c = search (rules, others_changed)

pub number_slots-returns-else-takes-clause-tree : goal.number_slots-returns-else-takes-clause-tree
number_slots-returns-else-takes-clause-tree t c = sym (stays c.args.word (typed_model c.args.typed.now) (sym c.takes.ensures ∙ c.if-takes.false)).1

-- ---- chains that are turned round

pub number_name-down-init : goal.number_name-down-init
number_name-down-init t c =
    let begun = nothing_passed (size-TypedName c.args.name.now) (name_model c.args.name.now) c.no_name-passed.result c.no_name-passed.ensures in
    record { same = begun.0; less = omega arith; below = begun.1 }

pub number_name-down-preserved : goal.number_name-down-preserved
number_name-down-preserved t c =
    let i = c.down.invariant in
    let step = is_down (size-TypedName c.args.name.now) c.down.name c.down.passed c.descend.new.name c.descend.new.passed c.descend.ensures.name c.descend.ensures.passed (sym c.has_prefix.ensures ∙ c.down-test.true) i.less i.below in
    record { same = step.same ∙ i.same; less = omega (arith, step.less, i.less); below = step.below }

pub number_name-up-init : goal.number_name-up-init
number_name-up-init t c =
    let i = c.down.invariant in
    let begun = begins_up c.args.word c.args.name.now c.down.name c.down.passed i.same (sym c.has_prefix.ensures ∙ c.down-test.false) in
    record { tree = begun.0; word = begun.1; below = i.below }

pub number_name-up-preserved-in-Object : goal.number_name-up-preserved-in-Object
number_name-up-preserved-in-Object t c =
    let i = c.up.invariant in
    let up = is_up (size-TypedName c.args.name.now) c.up.word c.up.name c.up.passed c.ascend.new.name c.ascend.new.passed c.ascend.ensures.name c.ascend.ensures.passed (sym c.has_prefix-in-up.ensures ∙ c.up-test.true) i.below in
    let same = object_numbered c.up.word c.ascend.new.name c.in-Object.place c.in-Object.is_constant c.in-Object.is in
    let next = next_up (size-TypedName c.args.name.now) c.up.word c.up.word c.up.name c.up.passed c.ascend.new.name c.ascend.new.passed c.ascend.new.name c.args.name.now c.args.word up same i.tree i.word in
    record { tree = next.0; word = next.1; below = up.below }

pub number_name-up-preserved-in-Component : goal.number_name-up-preserved-in-Component
number_name-up-preserved-in-Component t c =
    let i = c.up.invariant in
    let up = is_up (size-TypedName c.args.name.now) c.up.word c.up.name c.up.passed c.ascend.new.name c.ascend.new.passed c.ascend.ensures.name c.ascend.ensures.passed (sym c.has_prefix-in-up.ensures ∙ c.up-test.true) i.below in
    let same = component_numbered c.up.word c.ascend.new.name c.in-Component.whole c.in-Component.offset c.in-Component.is in
    let next = next_up (size-TypedName c.args.name.now) c.up.word c.up.word c.up.name c.up.passed c.ascend.new.name c.ascend.new.passed c.ascend.new.name c.args.name.now c.args.word up same i.tree i.word in
    record { tree = next.0; word = next.1; below = up.below }

pub number_name-number_operand-word-requires : goal.number_name-number_operand-word-requires
number_name-number_operand-word-requires t c =
    let up = is_up (size-TypedName c.args.name.now) c.up.word c.up.name c.up.passed c.ascend.new.name c.ascend.new.passed c.ascend.ensures.name c.ascend.ensures.passed (sym c.has_prefix-in-up.ensures ∙ c.up-test.true) c.up.invariant.below in
    let below = index_below (size-TypedName c.args.name.now) c.ascend.new.name c.in-Indexed.array c.in-Indexed.index c.in-Indexed.bounds c.in-Indexed.words c.in-Indexed.is up.last in
    (omega (arith, c.decreases, below), tt)

pub number_name-up-preserved : goal.number_name-up-preserved
number_name-up-preserved t c =
    let i = c.up.invariant in
    let up = is_up (size-TypedName c.args.name.now) c.up.word c.up.name c.up.passed c.ascend.new.name c.ascend.new.passed c.ascend.ensures.name c.ascend.ensures.passed (sym c.has_prefix-in-up.ensures ∙ c.up-test.true) i.below in
    let same = indexed_numbered c.up.word c.number_operand-word.result c.ascend.new.name _ c.in-Indexed.array _ c.in-Indexed.index c.number_operand-word.new.operand c.in-Indexed.bounds c.in-Indexed.words
    c.in-Indexed.is refl refl c.number_operand-word.ensures.tree c.number_operand-word.ensures.word in
    let next = next_up (size-TypedName c.args.name.now) c.up.word c.number_operand-word.result c.up.name c.up.passed c.ascend.new.name c.ascend.new.passed _ c.args.name.now c.args.word up same i.tree i.word in
    record { tree = next.0; word = next.1; below = up.below }

pub number_name-returns-clause-tree : goal.number_name-returns-clause-tree
number_name-returns-clause-tree t c = sym (ends_up c.up.word c.up.name c.up.passed (sym c.has_prefix-in-up.ensures ∙ c.up-test.false)).0 ∙ c.up.invariant.tree

pub number_name-returns-clause-word : goal.number_name-returns-clause-word
number_name-returns-clause-word t c = sym (ends_up c.up.word c.up.name c.up.passed (sym c.has_prefix-in-up.ensures ∙ c.up-test.false)).1 ∙ c.up.invariant.word

pub number_typed-down-init : goal.number_typed-down-init
number_typed-down-init t c =
    let begun = operands.nothing_passed (size-Typed c.args.typed.now) (typed_model c.args.typed.now) c.no_operand-passed.result c.no_operand-passed.ensures in
    record { same = begun.0; less = omega arith; below = begun.1; computed = begun.2 }

pub number_typed-down-preserved : goal.number_typed-down-preserved
number_typed-down-preserved t c =
    let i = c.down.invariant in
    let step = operands.is_down (size-Typed c.args.typed.now) c.down.typed c.down.passed c.descend_operand.new.typed c.descend_operand.new.passed c.descend_operand.ensures.typed c.descend_operand.ensures.passed
    (sym c.leans.ensures ∙ c.down-test.true) i.less i.below i.computed in
    record { same = step.same ∙ i.same; less = omega (arith, step.less, i.less); below = step.below; computed = step.computed }

pub number_typed-number_first-word-requires : goal.number_typed-number_first-word-requires
number_typed-number_first-word-requires t c = (omega (arith, c.decreases, operands.form_less c.down.typed, c.down.invariant.less), tt)

pub number_typed-up-init : goal.number_typed-up-init
number_typed-up-init t c =
    let i = c.down.invariant in
    let begun = operands.begins_up c.args.word c.number_first-word.result c.args.typed.now c.down.typed c.down.passed c.number_first-word.new.form c.is_some-is_static.result c.is_some-is_static.ensures i.same i.computed
    c.number_first-word.ensures.tree c.number_first-word.ensures.word in
    record { tree = begun.0; word = begun.1; below = i.below }

pub number_typed-number_slots-word-requires : goal.number_typed-number_slots-word-requires
number_typed-number_slots-word-requires t c =
    let up = operands.is_up (size-Typed c.args.typed.now) c.up.word c.up.typed c.up.passed c.ascend_operand.new.typed c.ascend_operand.new.passed c.ascend_operand.ensures.typed c.ascend_operand.ensures.passed
    (sym c.form_leans.ensures.form ∙ c.up-test.true) c.up.invariant.below in
    let below = operands.right_below (size-Typed c.args.typed.now) c.ascend_operand.new.typed c.no_operand-right.result c.take_right.new.other c.take_right.ensures.other up.leans up.last in
    (omega (arith, c.decreases, below), tt)

pub number_typed-up-preserved : goal.number_typed-up-preserved
number_typed-up-preserved t c =
    let up = operands.is_up (size-Typed c.args.typed.now) c.up.word c.up.typed c.up.passed c.ascend_operand.new.typed c.ascend_operand.new.passed c.ascend_operand.ensures.typed c.ascend_operand.ensures.passed
    (sym c.form_leans.ensures.form ∙ c.up-test.true) c.up.invariant.below in
    let put = operands.right_put c.up.word c.number_slots-word.result c.ascend_operand.new.typed c.no_operand-right.result c.take_right.new.typed c.take_right.new.other c.number_slots-word.new.typed c.put_right.new.typed
    c.take_right.ensures.typed c.take_right.ensures.other c.put_right.ensures.typed up.leans c.number_slots-word.ensures.tree c.number_slots-word.ensures.word in
    let next = operands.next_up (size-Typed c.args.typed.now) c.up.word c.number_slots-word.result c.args.word c.up.typed c.up.passed c.ascend_operand.new.typed c.ascend_operand.new.passed c.args.typed.now c.put_right.new.typed
    up put c.up.invariant.tree c.up.invariant.word in
    record { tree = next.0; word = next.1; below = up.below }

pub number_typed-up-smaller : goal.number_typed-up-smaller
number_typed-up-smaller t c =
    let up = operands.is_up (size-Typed c.args.typed.now) c.up.word c.up.typed c.up.passed c.ascend_operand.new.typed c.ascend_operand.new.passed c.ascend_operand.ensures.typed c.ascend_operand.ensures.passed
    (sym c.form_leans.ensures.form ∙ c.up-test.true) c.up.invariant.below in
    omega (arith, up.less)

pub number_typed-returns-clause-tree : goal.number_typed-returns-clause-tree
number_typed-returns-clause-tree t c = sym (operands.ends_up c.up.word c.up.typed c.up.passed (sym c.form_leans.ensures.tree ∙ c.up-test.false)).0 ∙ c.up.invariant.tree

pub number_typed-returns-clause-word : goal.number_typed-returns-clause-word
number_typed-returns-clause-word t c = sym (operands.ends_up c.up.word c.up.typed c.up.passed (sym c.form_leans.ensures.tree ∙ c.up-test.false)).1 ∙ c.up.invariant.word
