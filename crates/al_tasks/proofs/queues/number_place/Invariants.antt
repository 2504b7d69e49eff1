use Rattle.std.proofs.Common.{◌≡◌, ◌+◌, drop, nat_lt}
use Rattle.al_tasks.specs.Queues.{first_place}
use Rattle.al_tasks.proofs.queues.number_place.Given as goal

abbrev pub invariant-loop-place : goal.invariant-loop-place
invariant-loop-place l = l.place + first_place (λ u. nat_lt l.number u.number) (drop l.place l.queue) ≡ first_place (λ u. nat_lt l.number u.number) l.queue
