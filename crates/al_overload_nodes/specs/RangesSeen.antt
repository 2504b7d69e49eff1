-- What pairs of bounds and selectors of the program are as plain data.
use Rattle.al_view_typed.specs.ExpressionViews.{typed_model}
use Rattle.al_overload_nodes.specs.Ranges.{FoundTree, PairTree}
use Rattle.al_overload_nodes.specs.declared.range.DeterminedValue.{DeterminedValue}
use Rattle.al_overload_nodes.specs.declared.range.Pair.{Pair}

abbrev pub pair_model : Pair → PairTree
pair_model pair = record { low = typed_model pair.low; high = typed_model pair.high; range = pair.range }

abbrev pub found_model : DeterminedValue → FoundTree
found_model f = record { value = typed_model f.value; found = f.found }
