use Rattle.al_static.proofs.DivisionLemmas.{leave_remainders}
use Rattle.al_static.proofs.laws.divisions_leave_remainders.Goals as goal

pub returns : goal.returns
returns c = leave_remainders
