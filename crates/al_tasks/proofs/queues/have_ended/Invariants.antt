use Rattle.std.proofs.Common.{◌≡◌, drop}
use Rattle.std.specs.List.{list_all}
use Rattle.al_tasks.specs.Task.{is_ended}
use Rattle.al_tasks.proofs.queues.have_ended.Given as goal

abbrev pub invariant-loop-task : goal.invariant-loop-task
invariant-loop-task l = list_all (λ u. is_ended u.pause) (drop l.task-index l.paused) ≡ list_all (λ u. is_ended u.pause) l.paused
