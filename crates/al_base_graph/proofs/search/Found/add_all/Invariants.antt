use Rattle.std.proofs.Common.{◌≡◌, length, take}
use Rattle.al_base_graph.specs.Searches.{AreFound, Grows}
use Rattle.al_base_graph.proofs.search.Found.add_all.Given as goal

abbrev pub invariant-loop-node : goal.invariant-loop-node
invariant-loop-node l = record {
  found : AreFound l.self.flags.items l.self.nodes.items;
  count : length l.self.flags.items ≡ length l.initial.self.flags.items;
  grows : Grows l.initial.self.nodes.items l.self.nodes.items (take l.node-index l.nodes);
}
