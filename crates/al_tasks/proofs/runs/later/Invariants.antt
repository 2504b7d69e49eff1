use Rattle.std.proofs.Common.{◌≡◌}
use Rattle.al_tasks.specs.Bursts.{later}
use Rattle.al_tasks.proofs.runs.later.Given as goal

abbrev pub invariant-loop-tick : goal.invariant-loop-tick
invariant-loop-tick l = l.now ≡ later l.tick l.clock
