use Rattle.std.proofs.Common.{◌≡◌, ℕ, ◌<◌, ◌≤◌, length, get_or}
use Rattle.std.specs.List.{Contains}
use Rattle.al_base_graph.proofs.least.least_open_of.Given as goal

abbrev pub invariant-loop-node : goal.invariant-loop-node
invariant-loop-node l = record {
  upto : l.least ≤ length l.missing;
  lower : (k : ℕ) → k < l.node-index → 0 < get_or l.missing (get_or l.nodes k 0) 0 → l.least ≤ get_or l.nodes k 0;
  found : l.least < length l.missing → Contains l.nodes l.least × (0 < get_or l.missing l.least 0);
}
