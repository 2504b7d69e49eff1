use Rattle.std.proofs.Common.{◌≡◌, ◌≤◌, [], map, take}
use Rattle.std.specs.Prelude.{fold}
use Rattle.al_view_typed.specs.ExpressionViews.{actual_model, name_model, typed_model, value_model}
use Rattle.al_view_typed.specs.declared.expression.Typed.{size-Typed}
use Rattle.al_view_typed.specs.declared.expression.TypedName.{size-TypedName}
use Rattle.al_overload_slots.specs.Slots.{after, name_after, name_numbered, numbered}
use Rattle.al_overload_slots.proofs.Gathered.{with_actual, with_value}
use Rattle.al_overload_slots.proofs.TurnedNames.{AreBelow, after_up, numbered_up, unwound}
use Rattle.al_overload_slots.proofs.TurnedOperands as operands
use Rattle.al_overload_slots.proofs.number.+slots.Given as goal

abbrev pub invariant-number_values-loop-value : goal.invariant-number_values-loop-value
invariant-number_values-loop-value l =
    goal.unvisited-number_values-loop-value l
    × ((l.after, map value_model (take l.value-index l.value-items)) ≡ fold with_value (l.word, []) (take l.value-index l.initial.value-items))

abbrev pub invariant-number_actuals-loop-actual : goal.invariant-number_actuals-loop-actual
invariant-number_actuals-loop-actual l =
    goal.unvisited-number_actuals-loop-actual l
    × ((l.after, map actual_model (take l.actual-index l.actual-items)) ≡ fold with_actual (l.word, []) (take l.actual-index l.initial.actual-items))

-- ---- chains that are turned round

abbrev pub invariant-number_name-down : goal.invariant-number_name-down
invariant-number_name-down l = record {
  same : unwound (name_model l.passed) (name_model l.name) ≡ name_model l.fn.name;
  less : size-TypedName l.name ≤ size-TypedName l.fn.name;
  below : AreBelow (size-TypedName l.fn.name) l.passed;
}

abbrev pub decreases-number_name-down : goal.decreases-number_name-down
decreases-number_name-down l = size-TypedName l.name

abbrev pub invariant-number_name-up : goal.invariant-number_name-up
invariant-number_name-up l = record {
  tree : numbered_up l.word (name_model l.passed) (name_model l.name) ≡ name_numbered l.fn.word (name_model l.fn.name);
  word : after_up l.word (name_model l.passed) ≡ name_after l.fn.word (name_model l.fn.name);
  below : AreBelow (size-TypedName l.fn.name) l.passed;
}

abbrev pub decreases-number_name-up : goal.decreases-number_name-up
decreases-number_name-up l = size-TypedName l.passed

abbrev pub invariant-number_typed-down : goal.invariant-number_typed-down
invariant-number_typed-down l = record {
  same : operands.unwound (typed_model l.passed) (typed_model l.typed) ≡ typed_model l.fn.typed;
  less : size-Typed l.typed ≤ size-Typed l.fn.typed;
  below : operands.AreBelow (size-Typed l.fn.typed) l.passed.form;
  computed : operands.AreComputed (typed_model l.passed);
}

abbrev pub decreases-number_typed-down : goal.decreases-number_typed-down
decreases-number_typed-down l = size-Typed l.typed

abbrev pub invariant-number_typed-up : goal.invariant-number_typed-up
invariant-number_typed-up l = record {
  tree : operands.numbered_up l.word (typed_model l.passed) (typed_model l.typed) ≡ numbered l.fn.word (typed_model l.fn.typed);
  word : operands.after_up l.word (typed_model l.passed) ≡ after l.fn.word (typed_model l.fn.typed);
  below : operands.AreBelow (size-Typed l.fn.typed) l.passed.form;
}

abbrev pub decreases-number_typed-up : goal.decreases-number_typed-up
decreases-number_typed-up l = size-Typed l.passed
