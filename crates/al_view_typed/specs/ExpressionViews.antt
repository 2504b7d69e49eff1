-- What the program's expressions are as plain data.
use Rattle.std.specs.Prelude.{List}
use Rattle.al_view_typed.specs.ExpressionTrees.{TypedTree, FormTree, NameTree, ValueTree, ValuesTree, ActualTree, ActualsTree, CallTree}
use Rattle.al_view_typed.specs.ExpressionTrees.{TypedTree as typed_trees, FormTree as form_trees, NameTree as name_trees, ValueTree as value_trees, ValuesTree as values_trees, ActualTree as actual_trees, ActualsTree as actuals_trees, CallTree as call_trees}
use Rattle.al_view_typed.specs.declared.expression.Actual.{Actual}
use Rattle.al_view_typed.specs.declared.expression.Form.{Form}
use Rattle.al_view_typed.specs.declared.expression.TypedName.{TypedName}
use Rattle.al_view_typed.specs.declared.expression.CheckedValue.{CheckedValue}
use Rattle.al_view_typed.specs.declared.expression.Typed.{Typed}
use Rattle.al_view_typed.specs.declared.expression.TypedCall.{TypedCall}
use Rattle.al_view_typed.specs.declared.expression.Actual.TheOpen.{Actual-F, Form-F, TypedName-F, CheckedValue-F, Typed-F, TypedCall-F}
use Rattle.al_view_typed.specs.declared.expression.Actual.TheOpen as layer
use Rattle.al_view_typed.specs.declared.expression.Actual.TheFolds.{fold-Actual, fold-Form, fold-TypedName, fold-CheckedValue, fold-Typed, fold-TypedCall}
use Rattle.al_view_typed.specs.Listed.{listed}

-- ---- lists

abbrev pub values_of : List ValueTree → ValuesTree
values_of vs = listed values_trees.MoreValues values_trees.NoValue vs

abbrev pub actuals_of : List ActualTree → ActualsTree
actuals_of as_ = listed actuals_trees.MoreActuals actuals_trees.NoActual as_

-- ---- one layer of a tree, whose parts are seen already

abbrev pub Layer : ((A B C D E F : Type 0) → Type 0) → Type 0
Layer F = F ActualTree FormTree NameTree ValueTree TypedTree CallTree

abbrev pub actual_layer : Layer Actual-F → ActualTree
actual_layer (layer.In v) = actual_trees.InActual v
actual_layer (layer.Variable n w m f a s) = actual_trees.VariableActual n w m f a s

abbrev pub form_layer : Layer Form-F → FormTree
form_layer (layer.Literal v) = form_trees.LiteralForm v
form_layer (layer.Named n) = form_trees.NamedForm n
form_layer (layer.Unary o x) = form_trees.UnaryForm o x.value
form_layer (layer.Binary o x y) = form_trees.BinaryForm o x.value y.value
form_layer (layer.ShortCircuit o x y) = form_trees.ShortCircuitForm o x.value y.value
form_layer (layer.Membership v n l h s) = form_trees.MembershipForm v.value n l.value h.value s
form_layer (layer.Converted c v) = form_trees.ConvertedForm c v.value
form_layer (layer.Aggregate vs) = form_trees.AggregateForm (values_of vs.items)
form_layer (layer.Others n v) = form_trees.OthersForm n v.value
form_layer (layer.Call c) = form_trees.CallForm c
form_layer layer.Clock = form_trees.ClockForm

abbrev pub name_layer : Layer TypedName-F → NameTree
name_layer (layer.Object p c) = name_trees.ObjectName p c
name_layer (layer.Component r o) = name_trees.ComponentName r.value o
name_layer (layer.Indexed a i b w) = name_trees.IndexedName a.value i.value b w

abbrev pub value_layer : Layer CheckedValue-F → ValueTree
value_layer v = value_trees.Checked v.value v.bounds

abbrev pub typed_layer : Layer Typed-F → TypedTree
typed_layer t = typed_trees.Labelled t.labels t.form

abbrev pub call_layer : Layer TypedCall-F → CallTree
call_layer c = call_trees.Called c.callee c.flag c.words (actuals_of c.actuals.items)

-- ---- whole trees, layer by layer

-- what is so for all types and layers, at those of the trees
abbrev pub by_layers :
    {P : (A B C D E F : Type 0)
    → (Actual-F A B C D E F → A)
    → (Form-F A B C D E F → B)
    → (TypedName-F A B C D E F → C)
    → (CheckedValue-F A B C D E F → D)
    → (Typed-F A B C D E F → E)
    → (TypedCall-F A B C D E F → F)
    → Type 0}
    → ((A B C D E F : Type 0)
    (a : Actual-F A B C D E F → A)
    (b : Form-F A B C D E F → B)
    (c : TypedName-F A B C D E F → C)
    (d : CheckedValue-F A B C D E F → D)
    (e : Typed-F A B C D E F → E)
    (f : TypedCall-F A B C D E F → F)
    → P A B C D E F a b c d e f)
    → P ActualTree FormTree NameTree ValueTree TypedTree CallTree
    actual_layer form_layer name_layer value_layer typed_layer call_layer
by_layers f = f ActualTree FormTree NameTree ValueTree TypedTree CallTree
    actual_layer form_layer name_layer value_layer typed_layer call_layer

unfoldable pub actual_model : Actual → ActualTree
actual_model = by_layers fold-Actual

unfoldable pub form_model : Form → FormTree
form_model = by_layers fold-Form

unfoldable pub name_model : TypedName → NameTree
name_model = by_layers fold-TypedName

unfoldable pub value_model : CheckedValue → ValueTree
value_model = by_layers fold-CheckedValue

unfoldable pub typed_model : Typed → TypedTree
typed_model = by_layers fold-Typed

unfoldable pub call_model : TypedCall → CallTree
call_model = by_layers fold-TypedCall
