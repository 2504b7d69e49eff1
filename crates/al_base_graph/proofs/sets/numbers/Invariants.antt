use Rattle.al_base_graph.proofs.FlagLemmas.{AreNumbers}
use Rattle.al_base_graph.proofs.sets.numbers.Given as goal

abbrev pub invariant-loop-node : goal.invariant-loop-node
invariant-loop-node l = AreNumbers l.flags l.node l.nodes.items
