use Rattle.al_decl_judged.proofs.RangeLemmas.{indexes_lie_inside}
use Rattle.al_decl_judged.proofs.laws.indexes_lie_inside.Goals as goal

pub returns : goal.returns
returns c = indexes_lie_inside
