use Rattle.std.proofs.Common.{◌≡◌, drop}
use Rattle.std.specs.List.{list_any}
use Rattle.al_tasks.specs.Task.{is_delayed}
use Rattle.al_tasks.proofs.queues.has_delayed.Given as goal

abbrev pub invariant-loop-task : goal.invariant-loop-task
invariant-loop-task l = list_any (λ u. is_delayed u.pause) (drop l.task-index l.paused) ≡ list_any (λ u. is_delayed u.pause) l.paused
