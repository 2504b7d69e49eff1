use Rattle.al_base_graph.proofs.LawLemmas.{one_cycle}
use Rattle.al_base_graph.proofs.order_laws.cycle_is_unique.Goals as goal

pub returns : goal.returns
returns c = one_cycle
