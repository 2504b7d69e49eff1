use Rattle.std.proofs.Common.{◌≡◌, List, [], refl, subst, sym, ap, ◌∙◌, arith}
use Rattle.al_view_typed.specs.ExpressionTrees.{ValuesTree as values_trees, ActualsTree as actuals_trees}
use Rattle.al_view_typed.specs.ExpressionViews.{actual_model, name_model, typed_model, value_model}
use Rattle.al_code.specs.Parts.{IsPartBelow, part_code}
use Rattle.al_code.specs.Templates.{address_of, all_passed_code, checked_code, components_code, passed_code, value_of, variable_code, variables_code}
use Rattle.al_code.proofs.Writing.{written_nothing, written_more}
use Rattle.al_code.specs.Pieces.{Piece}
use Rattle.al_code.specs.Written.{written}
use Rattle.al_code.proofs.CodelessLemmas.{codeless_checked, none_is, times_large, times_nothing}
use Rattle.al_code.proofs.ExprLists.{and_steps, or_steps, times_more, written_listed}
use Rattle.al_code.proofs.ChainLemmas.{next_written, nothing_left, popped_below}
use Rattle.al_code.proofs.PartLemmas.{next_part, no_part_left, popped_part_below}
use Rattle.al_code.specs.declared.parts.Part.{Part}
use Rattle.al_code.proofs.expressions.+expression.Goals as goal

-- ---- chains

pub emit_value-emit_joint-requires : goal.emit_value-emit_joint-requires
emit_value-emit_joint-requires t c =
    let below = popped_below c.args.typed.now c.loop-joint.joints.items c.pop.new.self.items c.pop.result c.in-Some-pop.joint c.pop.ensures.items c.in-Some-pop.is c.loop-joint.invariant.1 in
    (omega (arith, c.decreases, below.1), tt)

pub emit_value-loop-joint-preserved : goal.emit_value-loop-joint-preserved
emit_value-loop-joint-preserved t c =
    let below = popped_below c.args.typed.now c.loop-joint.joints.items c.pop.new.self.items c.pop.result c.in-Some-pop.joint c.pop.ensures.items c.in-Some-pop.is c.loop-joint.invariant.1 in (
      next_written c.args.depth c.loop-joint.joints.items c.pop.new.self.items c.pop.result c.in-Some-pop.joint c.loop-joint.out c.emit_joint.new.out (written c.args.out.now (value_of c.args.depth (typed_model c.args.typed.now)))
          c.pop.ensures.items c.in-Some-pop.is c.in_ok-emit_joint.ensures c.loop-joint.invariant.0,
      below.0,
    )

pub emit_value-returns : goal.emit_value-returns
emit_value-returns t c =
    nothing_left c.args.depth c.loop-joint.joints.items c.loop-joint.out (written c.args.out.now (value_of c.args.depth (typed_model c.args.typed.now))) (omega (arith, c.in_default-pop.ensures.cases.0)) c.loop-joint.invariant.0

-- ---- parts of a name

pub emit_address-emit_element-requires : goal.emit_address-emit_element-requires
emit_address-emit_element-requires t c =
    let below = popped_part_below c.args.name.now c.loop-part.parts.items c.pop.new.self.items c.pop.result c.in-Some.part c.pop.ensures.items c.in-Some.is c.loop-part.invariant.1 in
    (omega (arith, c.decreases, subst (IsPartBelow c.args.name.now) c.in-Indexed.is below.1), tt)

pub emit_address-loop-part-preserved-in-Continue-branch-3 : goal.emit_address-loop-part-preserved-in-Continue-branch-3
emit_address-loop-part-preserved-in-Continue-branch-3 t c =
    let below = popped_part_below c.args.name.now c.loop-part.parts.items c.pop.new.self.items c.pop.result c.in-Some.part c.pop.ensures.items c.in-Some.is c.loop-part.invariant.1 in (
      next_part c.args.depth c.loop-part.parts.items c.pop.new.self.items c.pop.result c.in-Some.part c.loop-part.out c.emit_sized.new.out (written c.args.out.now (address_of c.args.depth (name_model c.args.name.now)))
          c.pop.ensures.items c.in-Some.is (c.in_ok-emit_sized-in-Selected.ensures ∙ ap (λ (p : Part). written c.loop-part.out (part_code c.args.depth p)) (sym c.in-Selected.is)) c.loop-part.invariant.0,
      below.0,
    )

pub emit_address-loop-part-preserved : goal.emit_address-loop-part-preserved
emit_address-loop-part-preserved t c =
    let below = popped_part_below c.args.name.now c.loop-part.parts.items c.pop.new.self.items c.pop.result c.in-Some.part c.pop.ensures.items c.in-Some.is c.loop-part.invariant.1 in (
      next_part c.args.depth c.loop-part.parts.items c.pop.new.self.items c.pop.result c.in-Some.part c.loop-part.out c.emit_element.new.out (written c.args.out.now (address_of c.args.depth (name_model c.args.name.now)))
          c.pop.ensures.items c.in-Some.is (c.in_ok-emit_element-in-Indexed.ensures ∙ ap (λ (p : Part). written c.loop-part.out (part_code c.args.depth p)) (sym c.in-Indexed.is)) c.loop-part.invariant.0,
      below.0,
    )

pub emit_address-returns : goal.emit_address-returns
emit_address-returns t c =
    no_part_left c.args.depth c.loop-part.parts.items c.loop-part.out (written c.args.out.now (address_of c.args.depth (name_model c.args.name.now))) (omega (arith, c.in_default.ensures.cases.0)) c.loop-part.invariant.0

-- ---- lists

pub emit_components-loop-value-init : goal.emit_components-loop-value-init
emit_components-loop-value-init t c = sym (written_nothing c.args.out.now)

pub emit_components-loop-value-preserved : goal.emit_components-loop-value-preserved
emit_components-loop-value-preserved t c =
    written_more (λ v. checked_code c.args.depth (value_model v)) c.args.out.now c.loop-value.out c.emit_checked.new.out c.args.values.now c.loop-value.value-index c.value-item.result
    c.loop-value.invariant c.in_ok-emit_checked.ensures c.value-item.is c.loop-value-test.true

pub emit_components-returns : goal.emit_components-returns
emit_components-returns t c =
    written_listed values_trees.MoreValues values_trees.NoValue (checked_code c.args.depth) (components_code c.args.depth) refl (λ x y. refl) value_model c.args.out.now c.loop-value.out c.args.values.now c.loop-value.value-index
    c.loop-value.invariant c.loop-value-test.false

pub emit_variables-loop-actual-init : goal.emit_variables-loop-actual-init
emit_variables-loop-actual-init t c = sym (written_nothing c.args.out.now)

pub emit_variables-loop-actual-preserved : goal.emit_variables-loop-actual-preserved
emit_variables-loop-actual-preserved t c =
    written_more (λ a. variable_code c.args.depth (actual_model a)) c.args.out.now c.loop-actual.out c.emit_variable.new.out c.args.actuals.now c.loop-actual.actual-index c.actual-item.result
    c.loop-actual.invariant c.in_ok-emit_variable.ensures c.actual-item.is c.loop-actual-test.true

pub emit_variables-returns : goal.emit_variables-returns
emit_variables-returns t c =
    written_listed actuals_trees.MoreActuals actuals_trees.NoActual (variable_code c.args.depth) (variables_code c.args.depth) refl (λ x y. refl) actual_model c.args.out.now c.loop-actual.out c.args.actuals.now c.loop-actual.actual-index
    c.loop-actual.invariant c.loop-actual-test.false

pub emit_all_passed-loop-actual-init : goal.emit_all_passed-loop-actual-init
emit_all_passed-loop-actual-init t c = sym (written_nothing c.args.out.now)

pub emit_all_passed-loop-actual-preserved : goal.emit_all_passed-loop-actual-preserved
emit_all_passed-loop-actual-preserved t c =
    written_more (λ a. passed_code c.args.depth (actual_model a)) c.args.out.now c.loop-actual.out c.emit_passed.new.out c.args.actuals.now c.loop-actual.actual-index c.actual-item.result
    c.loop-actual.invariant c.in_ok-emit_passed.ensures c.actual-item.is c.loop-actual-test.true

pub emit_all_passed-returns : goal.emit_all_passed-returns
emit_all_passed-returns t c =
    written_listed actuals_trees.MoreActuals actuals_trees.NoActual (passed_code c.args.depth) (all_passed_code c.args.depth) refl (λ x y. refl) actual_model c.args.out.now c.loop-actual.out c.args.actuals.now c.loop-actual.actual-index
    c.loop-actual.invariant c.loop-actual-test.false

pub emit_short-returns-in_ok-close-in-AndThen-2 : goal.emit_short-returns-in_ok-close-in-AndThen-2
emit_short-returns-in_ok-close-in-AndThen-2 t c =
    rw c.in-AndThen.is
    (and_steps c.args.out.now c.emit_unless_zero.new.out c.emit_value.new.out c.emit_join.new.out c.close.new.self c.emit_number.new.out c.close-in-AndThen.new.self c.leaving-first.result _ c.leaving-first.ensures
    c.in_ok-emit_unless_zero.ensures c.in_ok-emit_value-in-AndThen.ensures c.in_ok-emit_join-in-AndThen.ensures c.in_ok-close-in-AndThen.ensures c.in_ok-emit_number-in-AndThen.ensures c.in_ok-close-in-AndThen-2.ensures)

pub emit_short-returns-in_ok-close-in-OrElse-2 : goal.emit_short-returns-in_ok-close-in-OrElse-2
emit_short-returns-in_ok-close-in-OrElse-2 t c =
    rw c.in-OrElse.is
    (or_steps c.args.out.now c.emit_unless_zero.new.out c.emit_number-in-OrElse.new.out c.emit_join-in-OrElse.new.out c.close-in-OrElse.new.self c.emit_value-in-OrElse.new.out c.close-in-OrElse-2.new.self c.leaving-first.result _ c.leaving-first.ensures
    c.in_ok-emit_unless_zero.ensures c.in_ok-emit_number-in-OrElse.ensures c.in_ok-emit_join-in-OrElse.ensures c.in_ok-close-in-OrElse.ensures c.in_ok-emit_value-in-OrElse.ensures c.in_ok-close-in-OrElse-2.ensures)

pub emit_times-loop-i-init : goal.emit_times-loop-i-init
emit_times-loop-i-init t c = sym (written_nothing c.args.out.now)

pub emit_times-loop-i-preserved : goal.emit_times-loop-i-preserved
emit_times-loop-i-preserved t c =
    times_more (checked_code c.args.depth (value_model c.args.value.now)) c.args.out.now c.loop-i.out c.emit_checked.new.out c.loop-i._i c.loop-i.invariant c.in_ok-emit_checked.ensures

pub emit_times-returns : goal.emit_times-returns
emit_times-returns t c =
    let all : c.loop-i._i ≡ c.args.count = omega (arith, c.loop-i-test.false, c.loop-i.auto._i-end) in
    rw all at c.loop-i.invariant

pub emit_times-returns-then-is_codeless_value : goal.emit_times-returns-then-is_codeless_value
emit_times-returns-then-is_codeless_value t c =
    let code = checked_code c.args.depth (value_model c.args.value.now) in
    let none : code ≡ [] = codeless_checked c.args.depth (value_model c.args.value.now) (sym c.is_codeless_value.ensures ∙ c.if-is_codeless_value.true) in
    sym (written_nothing c.args.out.now) ∙ ap (λ (ps : List Piece). written c.args.out.now ps) (sym (times_nothing c.args.count code none))

pub emit_times-returns-then-is_large : goal.emit_times-returns-then-is_large
emit_times-returns-then-is_large t c =
    let code = checked_code c.args.depth (value_model c.args.value.now) in
    let large = none_is c.loop-i.out (sym c.is_large.ensures ∙ c.if-is_large.true) in
    large ∙ sym (times_large code c.args.out.now c.loop-i._i c.args.count (omega (arith, c.loop-i-test.true)) (sym c.loop-i.invariant ∙ large))
