use Rattle.al_base_graph.proofs.ClosingLemmas.{closing_reached}
use Rattle.al_base_graph.proofs.laws.closing_is_reached.Goals as goal

pub returns : goal.returns
returns g c = closing_reached
