use Rattle.std.proofs.Common.{◌≡◌, take}
use Rattle.std.specs.List.{filter_map}
use Rattle.al_stmts.specs.Choosing.{range_of}
use Rattle.al_stmts.proofs.alternatives.ranges_in.Given as goal

abbrev pub invariant-loop-choice : goal.invariant-loop-choice
invariant-loop-choice l = l.ranges ≡ filter_map range_of (take l.choice-index l.choices)
