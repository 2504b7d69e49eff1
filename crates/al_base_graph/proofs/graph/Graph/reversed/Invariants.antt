use Rattle.al_base_graph.proofs.ReverseLemmas.{IsReverseBelow}
use Rattle.al_base_graph.proofs.graph.Graph.reversed.Given as goal

abbrev pub invariant-loop-node : goal.invariant-loop-node
invariant-loop-node l = IsReverseBelow l.self l.graph l.node
