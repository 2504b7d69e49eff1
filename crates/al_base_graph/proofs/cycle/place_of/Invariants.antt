use Rattle.std.proofs.Common.{◌-◌, ◌≢◌, ℕ, ◌<◌, length, get_or}
use Rattle.std.specs.List.{Contains}
use Rattle.al_base_graph.proofs.cycle.place_of.Given as goal

abbrev pub invariant-nodes : goal.invariant-nodes
invariant-nodes l = (k : ℕ) → k < l.place → get_or l.nodes k 0 ≢ l.node

abbrev pub decreases-nodes : goal.decreases-nodes
decreases-nodes l = length l.nodes - l.place
