use Rattle.std.proofs.Common.{◌≡◌, ◌≤◌, ◌+◌, ◌-◌}
use Rattle.al_tasks.specs.Partitions.{part_of_run}
use Rattle.al_tasks.proofs.world.World.watched_run_on.Given as goal

-- the part of the run so far
abbrev pub invariant-loop-done : goal.invariant-loop-done
invariant-loop-done g l = record {
  at : (l.last, l.self) ≡ part_of_run l.done l.n l.since l.initial.self;
  few : l.last ≤ l.since + l.done;
  within : l.done ≤ l.steps;
}

abbrev pub decreases-loop-done : goal.decreases-loop-done
decreases-loop-done g l = l.steps - l.done
