use Rattle.al_check_promises.proofs.PartsKept.{parts_completed}
use Rattle.al_check_promises.proofs.laws.parts_are_completed.Goals as goal

pub returns : goal.returns
returns c = parts_completed
