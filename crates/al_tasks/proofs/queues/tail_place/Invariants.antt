use Rattle.std.proofs.Common.{◌≡◌, ◌+◌, drop, nat_le, not}
use Rattle.al_tasks.specs.Queues.{first_place}
use Rattle.al_tasks.proofs.queues.tail_place.Given as goal

abbrev pub invariant-loop-place : goal.invariant-loop-place
invariant-loop-place l = l.place + first_place (λ u. not (nat_le l.level u.active)) (drop l.place l.queue) ≡ first_place (λ u. not (nat_le l.level u.active)) l.queue
