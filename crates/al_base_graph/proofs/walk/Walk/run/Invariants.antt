use Rattle.std.proofs.Common.{◌+◌, ◌*◌, length}
use Rattle.std.specs.List.{sum}
use Rattle.al_base_graph.specs.Walks.{Walks, KeepsSeen}
use Rattle.al_base_graph.proofs.walk.Walk.run.Given as goal

abbrev pub invariant-nodes : goal.invariant-nodes
invariant-nodes l = record {
  walk : Walks l.graph l.self;
  seen : KeepsSeen l.initial.self.places.items l.self.places.items;
}

abbrev pub decreases-nodes : goal.decreases-nodes
decreases-nodes l = 2 * sum l.self.left.items + length l.self.visiting.items
