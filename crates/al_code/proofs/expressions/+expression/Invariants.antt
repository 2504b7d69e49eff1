use Rattle.std.proofs.Common.{◌≡◌, length, take}
use Rattle.std.specs.List.{flat_map}
use Rattle.al_view_typed.specs.ExpressionViews.{actual_model, name_model, typed_model, value_model}
use Rattle.al_code.specs.Written.{written}
use Rattle.al_code.specs.Chains.{AreBelow, chained_code}
use Rattle.al_code.specs.Parts.{ArePartsBelow, parted_code}
use Rattle.al_code.specs.ExprPieces.{times}
use Rattle.al_code.specs.Templates.{address_of, checked_code, passed_code, value_of, variable_code}
use Rattle.al_code.proofs.expressions.+expression.Given as goal

abbrev pub invariant-emit_components-loop-value : goal.invariant-emit_components-loop-value
invariant-emit_components-loop-value l = l.out ≡ written l.initial.out (flat_map (λ v. checked_code l.depth (value_model v)) (take l.value-index l.values))

abbrev pub invariant-emit_variables-loop-actual : goal.invariant-emit_variables-loop-actual
invariant-emit_variables-loop-actual l = l.out ≡ written l.initial.out (flat_map (λ a. variable_code l.depth (actual_model a)) (take l.actual-index l.actuals))

abbrev pub invariant-emit_all_passed-loop-actual : goal.invariant-emit_all_passed-loop-actual
invariant-emit_all_passed-loop-actual l = l.out ≡ written l.initial.out (flat_map (λ a. passed_code l.depth (actual_model a)) (take l.actual-index l.actuals))

abbrev pub invariant-emit_times-loop-i : goal.invariant-emit_times-loop-i
invariant-emit_times-loop-i l = l.out ≡ written l.initial.out (times l._i (checked_code l.depth (value_model l.value)))

abbrev pub invariant-emit_value-loop-joint : goal.invariant-emit_value-loop-joint
invariant-emit_value-loop-joint l =
    (written l.out (chained_code l.depth l.joints.items) ≡ written l.fn.out (value_of l.depth (typed_model l.fn.typed)))
    × AreBelow l.fn.typed l.joints.items

abbrev pub decreases-emit_value-loop-joint : goal.decreases-emit_value-loop-joint
decreases-emit_value-loop-joint l = length l.joints.items

abbrev pub invariant-emit_address-loop-part : goal.invariant-emit_address-loop-part
invariant-emit_address-loop-part l =
    (written l.out (parted_code l.depth l.parts.items) ≡ written l.fn.out (address_of l.depth (name_model l.fn.name)))
    × ArePartsBelow l.fn.name l.parts.items

abbrev pub decreases-emit_address-loop-part : goal.decreases-emit_address-loop-part
decreases-emit_address-loop-part l = length l.parts.items
