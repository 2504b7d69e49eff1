use Rattle.std.proofs.Common.{ℕ, ◌∙◌, ap, nat_le}
use Rattle.std.specs.Prelude.{insert}
use Rattle.al_tasks.specs.Queues.{first_place}
use Rattle.al_tasks.proofs.QueueLemmas.{inserted_at_head}
use Rattle.al_tasks.proofs.queues.put_at_head.Goals as goal

pub returns-clause-items : goal.returns-clause-items
returns-clause-items c =
    let by = λ (n : ℕ). first_place (λ u. nat_le u.active n) c.args.queue.now.items in
    c.put.ensures.items
    ∙ ap (λ n. insert c.args.queue.now.items n c.args.task) (c.head_place-place.ensures.value ∙ ap (λ l. first_place (λ u. nat_le u.active c.level-level.result) l) c.deref.ensures.value ∙ ap by c.level-level.ensures)
    ∙ inserted_at_head c.args.task c.args.queue.now.items
