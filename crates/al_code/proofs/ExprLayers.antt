-- Trees of the program by their fields.
use Rattle.std.proofs.Common.{◌≡◌, map, sym, ap, ◌∙◌}
use Rattle.al_view_typed.specs.ExpressionTrees.{TypedTree as typed_trees, ValueTree as value_trees, CallTree as call_trees}
use Rattle.al_view_typed.specs.ExpressionViews.{actual_model, actuals_of, call_model, form_model, typed_model, value_model}
use Rattle.al_view_typed.specs.declared.expression.Typed.{Typed, out-Typed, roll-out-Typed}
use Rattle.al_view_typed.specs.declared.expression.CheckedValue.{CheckedValue, out-CheckedValue, roll-out-CheckedValue}
use Rattle.al_view_typed.specs.declared.expression.TypedCall.{TypedCall, out-TypedCall, roll-out-TypedCall}
use Rattle.al_view_typed.proofs.ExpressionsMade.{call_made, typed_made, value_made}
use Rattle.al_code.specs.Templates.{words_of}

pub typed_layers : (t : Typed) → typed_model t ≡ typed_trees.Labelled (out-Typed t).labels (form_model (out-Typed t).form)
typed_layers t = ap typed_model (sym (roll-out-Typed t)) ∙ typed_made (out-Typed t).labels (out-Typed t).form

pub call_layers : (c : TypedCall) → call_model c ≡ call_trees.Called (out-TypedCall c).callee (out-TypedCall c).flag (out-TypedCall c).words (actuals_of (map actual_model (out-TypedCall c).actuals.items))
call_layers c = ap call_model (sym (roll-out-TypedCall c)) ∙ call_made (out-TypedCall c).callee (out-TypedCall c).flag (out-TypedCall c).words (out-TypedCall c).actuals

pub typed_words : (t : Typed) → words_of (typed_model t) ≡ (out-Typed t).labels.words
typed_words t = ap words_of (typed_layers t)

pub value_layers : (v : CheckedValue) → value_model v ≡ value_trees.Checked (typed_model (out-CheckedValue v).value) (out-CheckedValue v).bounds
value_layers v = ap value_model (sym (roll-out-CheckedValue v)) ∙ value_made (out-CheckedValue v).value (out-CheckedValue v).bounds
