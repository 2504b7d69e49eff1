use Rattle.std.proofs.Common.{◌≡◌, ◌++◌, take}
use Rattle.std.specs.List.{filter_map}
use Rattle.al_stmts.specs.Choosing.{value_range}
use Rattle.al_stmts.proofs.ranges.add_ranges.Given as goal

abbrev pub invariant-loop-choice : goal.invariant-loop-choice
invariant-loop-choice l = l.ranges.items ≡ l.initial.ranges.items ++ filter_map value_range (take l.choice-index l.choices)
