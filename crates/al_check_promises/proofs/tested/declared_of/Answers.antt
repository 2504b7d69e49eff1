use Rattle.al_check_promises.proofs.Joined.{declared_by}
use Rattle.al_check_promises.proofs.tested.declared_of.Goals as goal

pub returns : goal.returns
returns c = declared_by _ _ c.in_ok-links.ensures
