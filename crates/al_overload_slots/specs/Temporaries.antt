-- Whether an expression has temporaries.
use Rattle.std.specs.Prelude.{◌<◌, Bool, true, false, ◌||◌, Option, Some, None}
use Rattle.al_view.specs.declared.types.StaticValue.{StaticValue}
use Rattle.al_view_typed.specs.ExpressionTrees.{TypedTree, FormTree, NameTree, ValueTree, ValuesTree, ActualTree, ActualsTree, CallTree}
use Rattle.al_view_typed.specs.ExpressionTrees.TypedTree.{Labelled}
use Rattle.al_view_typed.specs.ExpressionTrees.FormTree.{LiteralForm, NamedForm, UnaryForm, BinaryForm, ShortCircuitForm, MembershipForm, ConvertedForm, AggregateForm, OthersForm, CallForm, ClockForm}
use Rattle.al_view_typed.specs.ExpressionTrees.NameTree.{ObjectName, ComponentName, IndexedName}
use Rattle.al_view_typed.specs.ExpressionTrees.ValueTree.{Checked}
use Rattle.al_view_typed.specs.ExpressionTrees.ValuesTree.{NoValue, MoreValues}
use Rattle.al_view_typed.specs.ExpressionTrees.ActualTree.{InActual, VariableActual}
use Rattle.al_view_typed.specs.ExpressionTrees.ActualsTree.{NoActual, MoreActuals}
use Rattle.al_view_typed.specs.ExpressionTrees.CallTree.{Called}
use Rattle.al_view_typed.specs.declared.expression.Typed.{Typed, size-Typed}

-- an expression with a value is that value
abbrev pub unless_value : Option StaticValue → Bool → Bool
unless_value (Some value) other = false
unless_value None other = other

abbrev mutual
  pub takes : TypedTree → Bool
  takes (Labelled labels form) = unless_value labels.value (form_takes form)

  pub form_takes : FormTree → Bool
  form_takes (LiteralForm value) = false
  form_takes (NamedForm name) = name_takes name
  form_takes (UnaryForm operator operand) = takes operand
  form_takes (BinaryForm operator left right) = takes right || takes left
  form_takes (ShortCircuitForm operator left right) = takes right || takes left
  form_takes (MembershipForm value is_negated low high slot) = true
  form_takes (ConvertedForm conversion value) = value_takes value
  form_takes (AggregateForm values) = values_take values
  form_takes (OthersForm count value) = value_takes value
  form_takes (CallForm call) = call_takes call
  form_takes ClockForm = false

  pub name_takes : NameTree → Bool
  name_takes (ObjectName place is_constant) = false
  name_takes (ComponentName whole offset) = name_takes whole
  name_takes (IndexedName array index bounds words) = takes index || name_takes array

  pub value_takes : ValueTree → Bool
  value_takes (Checked value bounds) = takes value

  pub values_take : ValuesTree → Bool
  values_take NoValue = false
  values_take (MoreValues value more) = value_takes value || values_take more

  pub actual_takes : ActualTree → Bool
  actual_takes (InActual value) = value_takes value
  actual_takes (VariableActual name words mode formal actual slot) = true

  pub actuals_take : ActualsTree → Bool
  actuals_take NoActual = false
  actuals_take (MoreActuals actual more) = actual_takes actual || actuals_take more

  pub call_takes : CallTree → Bool
  call_takes (Called callee flag words actuals) = actuals_take actuals

-- an operand is less deep
abbrev pub IsBelow : Typed → Typed → Type 0
IsBelow whole part = size-Typed part < size-Typed whole
