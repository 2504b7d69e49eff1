-- What the program's values are as plain data.
use Rattle.std.specs.Prelude.{map}
use Rattle.al_base_fault.specs.Judging.{map_ok}
use Rattle.al_view_typed.specs.ExpressionTrees.{ActualTree, NameTree, TypedTree, ValueTree}
use Rattle.al_view_typed.specs.ExpressionViews.{actual_model, name_model, typed_model, value_model}
use Rattle.al_view_typed.specs.declared.expression.Typed.{Typed}
use Rattle.al_view_typed.specs.declared.expression.TypedName.{TypedName}
use Rattle.al_overload_nodes.specs.declared.gather.Actuals.{Actuals}
use Rattle.al_overload_nodes.specs.declared.gather.Values.{Values}
use Rattle.al_overload_nodes.specs.declared.node.Reading.{Reading}
use Rattle.al_overload_nodes.specs.Gathering.{Parts}
use Rattle.al_overload_nodes.specs.Nodes.{ReadingTree}

abbrev pub reading_model : Reading → ReadingTree
reading_model r = record { known = r.known; tree = map_ok typed_model r.typed }

abbrev pub pair_model : Typed × Typed → TypedTree × TypedTree
pair_model pair = (typed_model pair.0, typed_model pair.1)

abbrev pub three_model : Typed × (Typed × Typed) → TypedTree × (TypedTree × TypedTree)
three_model three = (typed_model three.0, pair_model three.1)

abbrev pub name_pair_model : TypedName × Typed → NameTree × TypedTree
name_pair_model pair = (name_model pair.0, typed_model pair.1)

abbrev pub actuals_model : Actuals → Parts ActualTree
actuals_model a = record { failure = a.failure; fault = a.fault; items = map actual_model a.items.items }

abbrev pub values_model : Values → Parts ValueTree
values_model v = record { failure = v.failure; fault = v.fault; items = map value_model v.items.items }
