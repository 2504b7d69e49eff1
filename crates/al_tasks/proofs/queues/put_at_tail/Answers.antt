use Rattle.std.proofs.Common.{ℕ, ◌∙◌, ap, nat_le, not}
use Rattle.std.specs.Prelude.{insert}
use Rattle.al_tasks.specs.Queues.{first_place}
use Rattle.al_tasks.proofs.QueueLemmas.{inserted_at_tail}
use Rattle.al_tasks.proofs.queues.put_at_tail.Goals as goal

pub returns-clause-items : goal.returns-clause-items
returns-clause-items c =
    let by = λ (n : ℕ). first_place (λ u. not (nat_le n u.active)) c.args.queue.now.items in
    c.put.ensures.items
    ∙ ap (λ n. insert c.args.queue.now.items n c.args.task) (c.tail_place-place.ensures.value ∙ ap (λ l. first_place (λ u. not (nat_le c.level-level.result u.active)) l) c.deref.ensures.value ∙ ap by c.level-level.ensures)
    ∙ inserted_at_tail c.args.task c.args.queue.now.items
