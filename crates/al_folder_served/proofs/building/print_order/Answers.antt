use Rattle.al_folder_served.proofs.Voices.{on_ok_from}
use Rattle.al_folder_served.proofs.building.print_order.Goals as goal

pub returns-clause-put : goal.returns-clause-put
returns-clause-put g c = on_ok_from c.put_order.result _ (c.in_ok-reasons.reasons.items, c.in_ok-reasons.ensures, λ start before wrote. rw c.as_slice.ensures.value at (c.put_order.ensures.put start before wrote))
