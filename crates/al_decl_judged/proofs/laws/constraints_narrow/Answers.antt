use Rattle.al_decl_judged.proofs.RangeLemmas.{constraints_narrow}
use Rattle.al_decl_judged.proofs.laws.constraints_narrow.Goals as goal

pub returns : goal.returns
returns c = constraints_narrow
