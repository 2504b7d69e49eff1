use Rattle.al_overload.proofs.MeaningLemmas.{one_acceptable}
use Rattle.al_overload.proofs.laws.one_is_acceptable.Goals as goal

pub returns : goal.returns
returns c = one_acceptable
