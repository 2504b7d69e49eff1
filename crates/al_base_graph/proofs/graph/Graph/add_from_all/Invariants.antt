use Rattle.std.proofs.Common.{take}
use Rattle.al_base_graph.proofs.ReverseLemmas.{AddsTo}
use Rattle.al_base_graph.proofs.graph.Graph.add_from_all.Given as goal

abbrev pub invariant-loop-node : goal.invariant-loop-node
invariant-loop-node l = AddsTo l.initial.self l.self (take l.node-index l.nodes) l.to
