use Rattle.std.proofs.Common.{◌≡◌, ◌≤◌, ◌+◌, ◌-◌}
use Rattle.al_tasks.specs.Fits.{Fits}
use Rattle.al_tasks.specs.Seen.{seen}
use Rattle.al_tasks.specs.Bursts.{went}
use Rattle.al_tasks.proofs.runs.run_events.Given as goal

-- the moment after the events so far
abbrev pub invariant-loop-done : goal.invariant-loop-done
invariant-loop-done l = record {
  at : (l.last, seen l.state) ≡ went l.program l.n l.done (l.since, seen l.initial.state);
  few : l.last ≤ l.since + l.done;
  within : l.done ≤ l.steps;
  fits : Fits l.program (seen l.state);
}

abbrev pub decreases-loop-done : goal.decreases-loop-done
decreases-loop-done l = l.steps - l.done
