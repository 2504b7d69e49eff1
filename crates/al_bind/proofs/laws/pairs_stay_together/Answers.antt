use Rattle.al_bind.proofs.LawLemmas.{pairs_stay}
use Rattle.al_bind.proofs.laws.pairs_stay_together.Goals as goal

pub returns : goal.returns
returns c = pairs_stay
