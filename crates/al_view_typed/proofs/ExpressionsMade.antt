-- What an expression that was just made is seen as.
use Rattle.std.proofs.Common.{◌≡◌, ℕ, Bool, map, Option, sym, ap, ◌∙◌, Vec, Box, Global}
use Rattle.al_view.specs.declared.types.Bounds.{Bounds}
use Rattle.al_view.specs.declared.types.StaticValue.{StaticValue}
use Rattle.al_view.specs.declared.view.Mode.{Mode}
use Rattle.al_view.specs.declared.view.ObjectPlace.{ObjectPlace}
use Rattle.al_view_typed.specs.declared.label.BinaryOperator.{BinaryOperator}
use Rattle.al_view_typed.specs.declared.label.Conversion.{Conversion}
use Rattle.al_view_typed.specs.declared.label.Labels.{Labels}
use Rattle.al_view_typed.specs.declared.label.ShortCircuit.{ShortCircuit as ShortCircuitOperator}
use Rattle.al_view_typed.specs.declared.label.UnaryOperator.{UnaryOperator}
use Rattle.al_view_typed.specs.ExpressionTrees.{TypedTree as typed_trees, FormTree as form_trees, NameTree as name_trees, ValueTree as value_trees, ActualTree as actual_trees, CallTree as call_trees}
use Rattle.al_view_typed.specs.ExpressionViews.{by_layers, actual_model, actuals_of, call_model, form_model, name_model, typed_model, value_model, values_of}
use Rattle.al_view_typed.specs.declared.expression.Actual.{Actual}
use Rattle.al_view_typed.specs.declared.expression.Callee.{Callee}
use Rattle.al_view_typed.specs.declared.expression.Actual.TheVariants.{In, Variable, rolls-In, rolls-Variable}
use Rattle.al_view_typed.specs.declared.expression.Form.{Form}
use Rattle.al_view_typed.specs.declared.expression.Form.TheVariants.{Literal, Named, Unary, Binary, ShortCircuit, Membership, Converted, Aggregate, Others, Call, Clock, rolls-Literal, rolls-Named, rolls-Unary, rolls-Binary, rolls-ShortCircuit, rolls-Membership, rolls-Converted, rolls-Aggregate, rolls-Others, rolls-Call, rolls-Clock}
use Rattle.al_view_typed.specs.declared.expression.TypedName.{TypedName}
use Rattle.al_view_typed.specs.declared.expression.TypedName.TheVariants.{Object, Component, Indexed, rolls-Object, rolls-Component, rolls-Indexed}
use Rattle.al_view_typed.specs.declared.expression.CheckedValue.{CheckedValue, roll-CheckedValue}
use Rattle.al_view_typed.specs.declared.expression.Typed.{Typed, roll-Typed}
use Rattle.al_view_typed.specs.declared.expression.TypedCall.{TypedCall, roll-TypedCall}
use Rattle.al_view_typed.specs.declared.expression.Actual.TheOpen as layer
use Rattle.al_view_typed.specs.declared.expression.Actual.TheFolds.{fold-roll-Actual, fold-roll-Form, fold-roll-TypedName, fold-roll-CheckedValue, fold-roll-Typed, fold-roll-TypedCall}

pub typed_made : (labels : Labels) (form : Form) → typed_model (roll-Typed (record { labels = labels; form = form })) ≡ typed_trees.Labelled labels (form_model form)
unfolding form_model typed_model
typed_made labels form = by_layers fold-roll-Typed (record { labels = labels; form = form })

pub literal_made : (value : StaticValue) → form_model (Literal value) ≡ form_trees.LiteralForm value
unfolding form_model
literal_made value = ap form_model (sym (rolls-Literal value)) ∙ by_layers fold-roll-Form (layer.Literal value)

pub named_made : (name : TypedName) → form_model (Named name) ≡ form_trees.NamedForm (name_model name)
unfolding form_model name_model
named_made name = ap form_model (sym (rolls-Named name)) ∙ by_layers fold-roll-Form (layer.Named name)

pub unary_made : (operator : UnaryOperator) (operand : Box Typed Global) → form_model (Unary operator operand) ≡ form_trees.UnaryForm operator (typed_model operand.value)
unfolding form_model typed_model
unary_made operator operand = ap form_model (sym (rolls-Unary operator operand)) ∙ by_layers fold-roll-Form (layer.Unary operator operand)

pub binary_made : (operator : BinaryOperator) (left right : Box Typed Global) → form_model (Binary operator left right) ≡ form_trees.BinaryForm operator (typed_model left.value) (typed_model right.value)
unfolding form_model typed_model
binary_made operator left right = ap form_model (sym (rolls-Binary operator left right)) ∙ by_layers fold-roll-Form (layer.Binary operator left right)

pub short_circuit_made : (form : ShortCircuitOperator) (left right : Box Typed Global) → form_model (ShortCircuit form left right) ≡ form_trees.ShortCircuitForm form (typed_model left.value) (typed_model right.value)
unfolding form_model typed_model
short_circuit_made form left right = ap form_model (sym (rolls-ShortCircuit form left right)) ∙ by_layers fold-roll-Form (layer.ShortCircuit form left right)

pub membership_made : (value : Box Typed Global) (is_negated : Bool) (low high : Box Typed Global) (slot : ℕ) → form_model (Membership value is_negated low high slot) ≡ form_trees.MembershipForm (typed_model value.value) is_negated (typed_model low.value) (typed_model high.value) slot
unfolding form_model typed_model
membership_made value is_negated low high slot = ap form_model (sym (rolls-Membership value is_negated low high slot)) ∙ by_layers fold-roll-Form (layer.Membership value is_negated low high slot)

pub converted_made : (conversion : Conversion) (operand : Box CheckedValue Global) → form_model (Converted conversion operand) ≡ form_trees.ConvertedForm conversion (value_model operand.value)
unfolding form_model value_model
converted_made conversion operand = ap form_model (sym (rolls-Converted conversion operand)) ∙ by_layers fold-roll-Form (layer.Converted conversion operand)

pub aggregate_made : (components : Vec CheckedValue Global) → form_model (Aggregate components) ≡ form_trees.AggregateForm (values_of (map value_model components.items))
unfolding form_model value_model
aggregate_made components = ap form_model (sym (rolls-Aggregate components)) ∙ by_layers fold-roll-Form (layer.Aggregate components)

pub others_made : (count : ℕ) (component : Box CheckedValue Global) → form_model (Others count component) ≡ form_trees.OthersForm count (value_model component.value)
unfolding form_model value_model
others_made count component = ap form_model (sym (rolls-Others count component)) ∙ by_layers fold-roll-Form (layer.Others count component)

pub call_form_made : (call : TypedCall) → form_model (Call call) ≡ form_trees.CallForm (call_model call)
unfolding call_model form_model
call_form_made call = ap form_model (sym (rolls-Call call)) ∙ by_layers fold-roll-Form (layer.Call call)

pub clock_made : form_model Clock ≡ form_trees.ClockForm
unfolding form_model
clock_made = ap form_model (sym rolls-Clock) ∙ by_layers fold-roll-Form layer.Clock

pub object_made : (place : ObjectPlace) (is_constant : Bool) → name_model (Object place is_constant) ≡ name_trees.ObjectName place is_constant
unfolding name_model
object_made place is_constant = ap name_model (sym (rolls-Object place is_constant)) ∙ by_layers fold-roll-TypedName (layer.Object place is_constant)

pub component_made : (whole : Box TypedName Global) (offset : ℕ) → name_model (Component whole offset) ≡ name_trees.ComponentName (name_model whole.value) offset
unfolding name_model
component_made whole offset = ap name_model (sym (rolls-Component whole offset)) ∙ by_layers fold-roll-TypedName (layer.Component whole offset)

pub indexed_made : (array : Box TypedName Global) (index : Box Typed Global) (bounds : Bounds) (words : ℕ) → name_model (Indexed array index bounds words) ≡ name_trees.IndexedName (name_model array.value) (typed_model index.value) bounds words
unfolding name_model typed_model
indexed_made array index bounds words = ap name_model (sym (rolls-Indexed array index bounds words)) ∙ by_layers fold-roll-TypedName (layer.Indexed array index bounds words)

pub value_made : (value : Typed) (bounds : Option Bounds) → value_model (roll-CheckedValue (record { value = value; bounds = bounds })) ≡ value_trees.Checked (typed_model value) bounds
unfolding typed_model value_model
value_made value bounds = by_layers fold-roll-CheckedValue (record { value = value; bounds = bounds })

pub in_made : (value : CheckedValue) → actual_model (In value) ≡ actual_trees.InActual (value_model value)
unfolding actual_model value_model
in_made value = ap actual_model (sym (rolls-In value)) ∙ by_layers fold-roll-Actual (layer.In value)

pub variable_made : (name : TypedName) (words : ℕ) (mode : Mode) (formal actual : Option Bounds) (slot : ℕ) → actual_model (Variable name words mode formal actual slot) ≡ actual_trees.VariableActual (name_model name) words mode formal actual slot
unfolding actual_model name_model
variable_made name words mode formal actual slot = ap actual_model (sym (rolls-Variable name words mode formal actual slot)) ∙ by_layers fold-roll-Actual (layer.Variable name words mode formal actual slot)

pub call_made : (callee : Callee) (flag : Option ObjectPlace) (words : ℕ) (actuals : Vec Actual Global) → call_model (roll-TypedCall (record { callee = callee; flag = flag; words = words; actuals = actuals })) ≡ call_trees.Called callee flag words (actuals_of (map actual_model actuals.items))
unfolding actual_model call_model
call_made callee flag words actuals = by_layers fold-roll-TypedCall (record { callee = callee; flag = flag; words = words; actuals = actuals })
