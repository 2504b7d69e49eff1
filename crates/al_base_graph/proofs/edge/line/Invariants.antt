use Rattle.std.proofs.Common.{take}
use Rattle.al_base_graph.proofs.TieLemmas.{IsSoFar}
use Rattle.al_base_graph.proofs.edge.line.Given as goal

abbrev pub invariant-loop-edge : goal.invariant-loop-edge
invariant-loop-edge l = IsSoFar (take l.edge-index l.edges) l.after l.before l.least
