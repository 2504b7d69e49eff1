use Rattle.std.proofs.Common.{◌≡◌, ◌≤◌, ◌-◌, length}
use Rattle.al_base_graph.specs.Searches.{AreFound}
use Rattle.al_base_graph.proofs.SearchLemmas.{IsSearched}
use Rattle.al_base_graph.proofs.search.search.Given as goal

abbrev pub invariant-nodes : goal.invariant-nodes
invariant-nodes l = record {
  found : AreFound l.found.flags.items l.found.nodes.items;
  count : length l.found.flags.items ≡ length l.graph;
  within : l.next ≤ length l.found.nodes.items;
  searched : IsSearched l.graph l.starts l.found.nodes.items l.next;
}

abbrev pub decreases-nodes : goal.decreases-nodes
decreases-nodes l = length l.graph - l.next
