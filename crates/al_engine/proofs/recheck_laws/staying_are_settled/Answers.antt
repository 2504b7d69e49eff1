use Rattle.al_engine.proofs.RecheckLemmas.{settled}
use Rattle.al_engine.proofs.recheck_laws.staying_are_settled.Goals as goal

pub returns : goal.returns
returns g meaning header s old made checked is = settled meaning header s old made checked is
