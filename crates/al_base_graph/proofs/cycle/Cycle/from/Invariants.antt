use Rattle.std.proofs.Common.{not}
use Rattle.std.specs.List.{count_by}
use Rattle.al_base_graph.proofs.CycleLemmas.{IsAt}
use Rattle.al_base_graph.proofs.cycle.Cycle.from.Given as goal

abbrev pub invariant-walk : goal.invariant-walk
invariant-walk l = IsAt l.graph l.met.items l.walk.items l.node

abbrev pub decreases-walk : goal.decreases-walk
decreases-walk l = count_by (λ flag. not flag) l.met.items
