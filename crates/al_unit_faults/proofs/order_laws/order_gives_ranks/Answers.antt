use Rattle.al_unit_faults.proofs.Ranks.{order_gives_ranks}
use Rattle.al_unit_faults.proofs.order_laws.order_gives_ranks.Goals as goal

pub returns : goal.returns
returns c = order_gives_ranks
