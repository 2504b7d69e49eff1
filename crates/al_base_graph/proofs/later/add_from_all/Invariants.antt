use Rattle.std.proofs.Common.{◌≡◌, ◌==◌, ℕ, ◌+◌, length, take, if◌then◌else◌}
use Rattle.al_base_graph.specs.Graphs.{successors_of}
use Rattle.al_base_graph.specs.Placings.{times}
use Rattle.al_base_graph.proofs.later.add_from_all.Given as goal

abbrev pub invariant-loop-node : goal.invariant-loop-node
invariant-loop-node l = record {
  count : length l.graph ≡ length l.initial.graph;
  times_more : (a b : ℕ) → times a (successors_of l.graph b) ≡ times a (successors_of l.initial.graph b) + (if l.to == a then times b (take l.node-index l.nodes) else 0);
}
