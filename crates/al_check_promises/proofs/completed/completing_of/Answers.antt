use Rattle.al_check_promises.proofs.Joined.{completed_by, gained}
use Rattle.al_check_promises.proofs.completed.completing_of.Goals as goal

pub returns : goal.returns
returns c = completed_by _ _ (gained c.new-links.result c.add_completing.new.set _ c.new-links.ensures c.in_ok-add_completing.ensures)
