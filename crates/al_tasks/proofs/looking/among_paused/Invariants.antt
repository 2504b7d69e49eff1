use Rattle.std.proofs.Common.{◌≡◌, drop}
use Rattle.al_tasks.specs.Looking.{among_paused}
use Rattle.al_tasks.proofs.looking.among_paused.Given as goal

abbrev pub invariant-loop-task : goal.invariant-loop-task
invariant-loop-task l = among_paused l.number (drop l.task-index l.paused) ≡ among_paused l.number l.paused
