use Rattle.std.proofs.Common.{◌≡◌, ℕ, ◌<◌, length, get_or}
use Rattle.al_base_graph.specs.Graphs.{successors_of}
use Rattle.al_base_graph.proofs.walk.Walk.new.Given as goal

abbrev pub invariant-loop-node : goal.invariant-loop-node
invariant-loop-node l = record {
  count : length l.left.items ≡ l.node;
  lengths : (a : ℕ) → a < l.node → get_or l.left.items a 0 ≡ length (successors_of l.graph a);
}
