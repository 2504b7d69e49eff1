use Rattle.al_check_bound_laws.proofs.NothingCut.{outcomes-are-whole}
use Rattle.al_check_bound_laws.proofs.laws.outcomes_are_whole.Goals as goal

pub returns : goal.returns
returns c = outcomes-are-whole
