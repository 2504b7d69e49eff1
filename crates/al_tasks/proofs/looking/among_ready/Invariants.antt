use Rattle.std.proofs.Common.{◌≡◌, drop}
use Rattle.al_tasks.specs.Looking.{among_ready}
use Rattle.al_tasks.specs.declared.looking.TaskState.TheVariants.{Running}
use Rattle.al_tasks.proofs.looking.among_ready.Given as goal

abbrev pub invariant-loop-task : goal.invariant-loop-task
invariant-loop-task l = among_ready l.number l.state (drop l.task-index l.ready) ≡ among_ready l.number Running l.ready
