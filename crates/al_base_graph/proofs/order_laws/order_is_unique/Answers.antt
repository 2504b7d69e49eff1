use Rattle.al_base_graph.proofs.LawLemmas.{one_order}
use Rattle.al_base_graph.proofs.order_laws.order_is_unique.Goals as goal

pub returns : goal.returns
returns c = one_order
