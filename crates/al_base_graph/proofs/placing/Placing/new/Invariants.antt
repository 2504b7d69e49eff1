use Rattle.std.proofs.Common.{◌≡◌, ◌↔◌, ℕ, ◌<◌, length, get_or}
use Rattle.std.specs.List.{Contains}
use Rattle.al_base_graph.specs.Graphs.{successors_of, Step}
use Rattle.al_base_graph.proofs.placing.Placing.new.Given as goal

abbrev pub invariant-loop-node : goal.invariant-loop-node
invariant-loop-node l = record {
  count : length l.missing.items ≡ l.node;
  missing : (a : ℕ) → a < l.node → get_or l.missing.items a 0 ≡ length (successors_of l.graph a);
  closed : (a b : ℕ) → a < l.node → Step l.graph a b → b < length l.graph;
  ready : (a : ℕ) → Contains l.ready.nodes.keys a ↔ ((a < l.node) × (length (successors_of l.graph a) ≡ 0));
}
