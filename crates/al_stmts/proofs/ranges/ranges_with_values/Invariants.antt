use Rattle.std.proofs.Common.{◌≡◌, take}
use Rattle.std.specs.List.{filter_map, flat_map}
use Rattle.al_stmts.specs.Choosing.{value_range}
use Rattle.al_stmts.proofs.ranges.ranges_with_values.Given as goal

abbrev pub invariant-loop-choices : goal.invariant-loop-choices
invariant-loop-choices l = l.ranges.items ≡ flat_map (filter_map value_range) (take l.choices-index l.alternatives)
