use Rattle.al_bind.proofs.ExcludeLemmas.{excludes}
use Rattle.al_bind.proofs.laws.order_excludes_cycle.Goals as goal

pub returns : goal.returns
returns c = excludes
