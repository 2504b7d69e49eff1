use Rattle.al_base_graph.proofs.PlacingLemmas.{order_not_stuck}
use Rattle.al_base_graph.proofs.order_laws.ordered_is_not_stuck.Goals as goal

pub returns : goal.returns
returns c = order_not_stuck
