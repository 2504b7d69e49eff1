use Rattle.std.proofs.Common.{◌≡◌, ℕ, ◌<◌, ◌≤◌, length, ltb, if◌then◌else◌}
use Rattle.al_base_graph.specs.Graphs.{successors_of}
use Rattle.al_base_graph.specs.Placings.{times}
use Rattle.al_base_graph.proofs.later.later.Given as goal

abbrev pub invariant-loop-node : goal.invariant-loop-node
invariant-loop-node l = record {
  count : length l.later ≡ length l.graph;
  times_so_far : (a b : ℕ) → times a (successors_of l.later b) ≡ (if ltb a l.node then times b (successors_of l.graph a) else 0);
}
