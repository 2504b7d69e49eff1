use Rattle.al_base_graph.proofs.PlacingLemmas.{stuck_within}
use Rattle.al_base_graph.proofs.CycleLemmas.{stuck_before}
use Rattle.al_base_graph.proofs.order_laws.stuck_is_greatest.Goals as goal

pub returns : goal.returns
returns c = record { has_one = stuck_before; greatest = λ g held each a t. (held, each, t); nodes = stuck_within }
