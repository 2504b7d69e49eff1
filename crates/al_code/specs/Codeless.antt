-- Values that have no code: those without components, and those whose components have none (ARM 4.3.3, 4.7).
use Rattle.std.specs.Prelude.{ℕ, Bool, true, false, ◌==◌, ◌&&◌, ◌||◌, Option, is_none}
use Rattle.al_view.specs.declared.types.Bounds.{Bounds}
use Rattle.al_view_typed.specs.ExpressionTrees.{TypedTree, FormTree, ValueTree, ValuesTree}
use Rattle.al_view_typed.specs.ExpressionTrees.TypedTree.{Labelled}
use Rattle.al_view_typed.specs.ExpressionTrees.ValueTree.{Checked}
use Rattle.al_view_typed.specs.ExpressionTrees.ValuesTree.{NoValue, MoreValues}
use Rattle.al_view_typed.specs.ExpressionTrees.FormTree.{LiteralForm, NamedForm, UnaryForm, BinaryForm, ShortCircuitForm, MembershipForm, ConvertedForm, AggregateForm, OthersForm, CallForm, ClockForm}
use Rattle.al_view_typed.specs.declared.label.Conversion.{Conversion}
use Rattle.al_view_typed.specs.declared.label.Conversion.TheVariants as conversions

-- a conversion that leaves its operand's value as it is
abbrev pub keeps_value : Conversion → Bool
keeps_value conversions.Succ = false
keeps_value conversions.Pred = false
keeps_value conversions.ToType = true
keeps_value conversions.Qualification = true
keeps_value conversions.Pos = true
keeps_value conversions.Val = true
keeps_value conversions.Milliseconds = true

abbrev mutual
  pub is_codeless : TypedTree → Bool
  is_codeless (Labelled labels form) = is_none labels.value && is_codeless_form form

  pub is_codeless_form : FormTree → Bool
  is_codeless_form (LiteralForm value) = false
  is_codeless_form (NamedForm name) = false
  is_codeless_form (UnaryForm operator x) = false
  is_codeless_form (BinaryForm operator x y) = false
  is_codeless_form (ShortCircuitForm operator x y) = false
  is_codeless_form (MembershipForm x is_negated low high word) = false
  is_codeless_form (ConvertedForm conversion x) = keeps_value conversion && is_codeless_value x
  is_codeless_form (AggregateForm values) = are_codeless values
  is_codeless_form (OthersForm count x) = (count == 0) || is_codeless_value x
  is_codeless_form (CallForm call) = false
  is_codeless_form ClockForm = false

  pub is_codeless_value : ValueTree → Bool
  is_codeless_value (Checked x bounds) = is_none bounds && is_codeless x

  pub are_codeless : ValuesTree → Bool
  are_codeless NoValue = true
  are_codeless (MoreValues value values) = is_codeless_value value && are_codeless values
