use Rattle.std.proofs.Common.{◌≡◌, take, length}
use Rattle.al_base_graph.specs.Ties.{graph_from}
use Rattle.al_base_graph.proofs.edge.graph_of.Given as goal

abbrev pub invariant-loop-edge : goal.invariant-loop-edge
invariant-loop-edge l = record {
  count : length l.graph ≡ l.count;
  graph : l.graph ≡ graph_from l.count (take l.edge-index l.edges);
}
