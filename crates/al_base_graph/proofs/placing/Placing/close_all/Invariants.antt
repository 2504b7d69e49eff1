use Rattle.std.proofs.Common.{◌≡◌, ◌↔◌, ◌⊎◌, ℕ, ◌+◌, ◌<◌, length, take, get_or}
use Rattle.std.specs.List.{Contains}
use Rattle.al_base_graph.specs.Placings.{times}
use Rattle.al_base_graph.proofs.placing.Placing.close_all.Given as goal

abbrev pub invariant-loop-node : goal.invariant-loop-node
invariant-loop-node l = record {
  order : l.self.order ≡ l.initial.self.order;
  count : length l.self.missing.items ≡ length l.initial.self.missing.items;
  missing : (a : ℕ) → get_or l.self.missing.items a 0 + times a (take l.node-index l.nodes) ≡ get_or l.initial.self.missing.items a 0;
  ready : (a : ℕ) → Contains l.self.ready.nodes.keys a ↔ (Contains l.initial.self.ready.nodes.keys a ⊎ ((0 < times a (take l.node-index l.nodes)) × (get_or l.self.missing.items a 0 ≡ 0)));
}
