use Rattle.al_check_promises.proofs.Recorded.{only}
use Rattle.al_check_promises.proofs.laws.only_recorded.Goals as goal

pub returns : goal.returns
returns c = only
