use Rattle.std.proofs.Common.{ℕ, ◌∙◌, ap, nat_lt}
use Rattle.std.specs.Prelude.{insert}
use Rattle.al_tasks.specs.Queues.{first_place}
use Rattle.al_tasks.proofs.QueueLemmas.{inserted_by_number}
use Rattle.al_tasks.proofs.queues.put_by_number.Goals as goal

pub returns-clause-items : goal.returns-clause-items
returns-clause-items c =
    let by = λ (n : ℕ). first_place (λ u. nat_lt n u.number) c.args.queue.now.items in
    c.put.ensures.items
    ∙ ap (λ n. insert c.args.queue.now.items n c.args.task) (c.number_place-place.ensures.value ∙ ap (λ l. first_place (λ u. nat_lt c.number-number.result u.number) l) c.deref.ensures.value ∙ ap by c.number-number.ensures)
    ∙ inserted_by_number c.args.task c.args.queue.now.items
