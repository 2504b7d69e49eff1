use Rattle.std.proofs.Common.{length}
use Rattle.al_base_graph.specs.Placings.{Places}
use Rattle.al_base_graph.proofs.PlacingLemmas.{unplaced}
use Rattle.al_base_graph.proofs.placing.Placing.run.Given as goal

abbrev pub invariant-nodes : goal.invariant-nodes
invariant-nodes l = Places l.graph l.self

abbrev pub decreases-nodes : goal.decreases-nodes
decreases-nodes l = unplaced l.self.order.items (length l.graph)
