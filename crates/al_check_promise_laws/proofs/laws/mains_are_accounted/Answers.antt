use Rattle.al_check_promise_laws.proofs.MainLaws.{mains-are-accounted}
use Rattle.al_check_promise_laws.proofs.laws.mains_are_accounted.Goals as goal

pub returns : goal.returns
returns c = mains-are-accounted
