use Rattle.std.proofs.Common.{◌≡◌, drop, true, ℤ}
use Rattle.std.specs.Prelude.{int_lt}
use Rattle.al_tasks.specs.Bursts.{is_any_due}
use Rattle.al_tasks.proofs.queues.earliest.Given as goal

abbrev pub invariant-loop-task : goal.invariant-loop-task
invariant-loop-task l = (clock : ℤ) → int_lt clock l.least ≡ true → is_any_due clock (drop l.task-index l.paused) ≡ is_any_due clock l.paused
