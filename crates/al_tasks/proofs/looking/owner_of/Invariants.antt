use Rattle.std.proofs.Common.{◌≡◌, drop}
use Rattle.al_tasks.specs.Looking.{owner_of}
use Rattle.al_tasks.proofs.looking.owner_of.Given as goal

abbrev pub invariant-loop-task : goal.invariant-loop-task
invariant-loop-task l = owner_of l.object (drop l.task-index l.ready) ≡ owner_of l.object l.ready
