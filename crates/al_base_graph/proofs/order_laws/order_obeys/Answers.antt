use Rattle.al_base_graph.proofs.PlacingLemmas.{placed_before}
use Rattle.al_base_graph.proofs.LawLemmas.{order_once}
use Rattle.al_base_graph.proofs.order_laws.order_obeys.Goals as goal

pub returns : goal.returns
returns c = record { once = order_once; before = λ g order is i b l s. placed_before g order is.takes_least i l b s }
