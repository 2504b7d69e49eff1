use Rattle.std.proofs.Common.{◌≡◌, map, replicate, []}
use Rattle.al_base_graph.proofs.graph.Graph.new.Given as goal

abbrev pub invariant-loop-node : goal.invariant-loop-node
invariant-loop-node l = map (λ v. v.items) l.successors.items ≡ replicate l._node []
