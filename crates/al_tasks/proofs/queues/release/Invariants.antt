use Rattle.std.proofs.Common.{◌≡◌, ◌+◌, ◌-◌, ◌≤◌, ◌++◌, take, drop, vec_len, vec_capacity}
use Rattle.al_tasks.specs.World.{passing, failing, all_at_tail}
use Rattle.al_tasks.specs.Queues.{is_wanted}
use Rattle.al_tasks.proofs.queues.release.Given as goal

abbrev pub invariant-tasks : goal.invariant-tasks
invariant-tasks l = record {
  ready : all_at_tail (passing (is_wanted l.wanted) (drop l.place l.paused.items)) l.ready.items ≡ all_at_tail (passing (is_wanted l.wanted) l.initial.paused.items) l.initial.ready.items;
  paused : take l.place l.paused.items ++ failing (is_wanted l.wanted) (drop l.place l.paused.items) ≡ failing (is_wanted l.wanted) l.initial.paused.items;
  room : vec_len l.ready + vec_len l.paused ≤ vec_capacity l.ready;
  within : l.place ≤ vec_len l.paused;
}

abbrev pub decreases-tasks : goal.decreases-tasks
decreases-tasks l = vec_len l.paused - l.place
