use Rattle.al_check_bound_laws.proofs.NothingCut.{nothing-is-cut}
use Rattle.al_check_bound_laws.proofs.laws.nothing_is_cut.Goals as goal

pub returns : goal.returns
returns c = nothing-is-cut
