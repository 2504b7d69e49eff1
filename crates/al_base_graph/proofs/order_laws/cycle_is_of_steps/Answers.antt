use Rattle.al_base_graph.proofs.LawLemmas.{cycle_stuck, cycle_steps}
use Rattle.al_base_graph.proofs.order_laws.cycle_is_of_steps.Goals as goal

pub returns : goal.returns
returns c = record { stuck = cycle_stuck; steps = λ g cycle is i l. (cycle_steps g is.front cycle is.some is.walk i l).0 }
