use Rattle.std.proofs.Common.{◌≡◌, take}
use Rattle.al_overload.specs.Counts.{tally, ways_of}
use Rattle.al_overload.proofs.count.ways_in.Given as goal

abbrev pub invariant-loop-choice : goal.invariant-loop-choice
invariant-loop-choice l = l.ways ≡ ways_of (tally l.is_root l.expected (take l.choice-index l.choices))
