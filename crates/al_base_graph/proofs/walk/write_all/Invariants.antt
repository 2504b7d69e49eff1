use Rattle.std.proofs.Common.{◌≡◌, take, set}
use Rattle.std.specs.List.{fold}
use Rattle.al_base_graph.proofs.walk.write_all.Given as goal

abbrev pub invariant-loop-node : goal.invariant-loop-node
invariant-loop-node g l = l.items ≡ fold (λ written node. set written node l.value) l.initial.items (take l.node-index l.nodes)
