use Rattle.std.proofs.Common.{◌≡◌, ◌+◌, drop, nat_le}
use Rattle.al_tasks.specs.Queues.{first_place}
use Rattle.al_tasks.proofs.queues.head_place.Given as goal

abbrev pub invariant-loop-place : goal.invariant-loop-place
invariant-loop-place l = l.place + first_place (λ u. nat_le u.active l.level) (drop l.place l.queue) ≡ first_place (λ u. nat_le u.active l.level) l.queue
