use Rattle.std.proofs.Common.{◌≡◌, ℕ, ◌<◌, length, get_or}
use Rattle.std.specs.List.{HoldsAt}
use Rattle.al_base_graph.specs.Orders.{next_in}
use Rattle.al_base_graph.specs.Ties.{IsLine}
use Rattle.al_base_graph.proofs.edge.lines_of.Given as goal

abbrev pub invariant-loop-place : goal.invariant-loop-place
invariant-loop-place l = record {
  count : length l.lines.items ≡ l.place;
  each : (i : ℕ) → i < l.place → HoldsAt (IsLine l.edges (get_or l.cycle i 0) (next_in l.cycle i)) l.lines.items i;
}
