use Rattle.al_overload.proofs.PickLemmas.{numbers_mean}
use Rattle.al_overload.proofs.picking.numbers_mean_candidates.Goals as goal

pub returns : goal.returns
returns c = numbers_mean
