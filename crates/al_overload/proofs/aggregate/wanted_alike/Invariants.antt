use Rattle.std.proofs.Common.{◌≡◌, replicate}
use Rattle.al_overload.specs.Aggregates.{value_wanted}
use Rattle.al_overload.proofs.aggregate.wanted_alike.Given as goal

abbrev pub invariant-loop-done : goal.invariant-loop-done
invariant-loop-done l = l.expected ≡ replicate l._done (value_wanted l.types l.component)
