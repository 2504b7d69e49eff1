use Rattle.al_engine.proofs.RenewingThere.{renewals_are_rechecked}
use Rattle.al_engine.proofs.laws.renewals_are_rechecked.Goals as goal

pub returns : goal.returns
returns c = renewals_are_rechecked
