use Rattle.std.proofs.Common.{◌≡◌, ◌≢◌, ℕ, ◌<◌, []}
use Rattle.al_base_graph.specs.Walks.{Walks, place_of}
use Rattle.al_base_graph.specs.declared.walk.Place.TheVariants.{Unseen}
use Rattle.al_base_graph.proofs.walk.on_cycles.Given as goal

abbrev pub invariant-loop-node : goal.invariant-loop-node
invariant-loop-node l = record {
  walk : Walks l.graph l.walk;
  between : l.walk.visiting.items ≡ [];
  seen : (a : ℕ) → a < l.node → place_of l.walk.places.items a ≢ Unseen;
}
