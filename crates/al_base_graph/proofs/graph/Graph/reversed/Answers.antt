use Rattle.std.proofs.Common.{ℕ, List, replicate, [], subst, ap, ◌∙◌, arith}
use Rattle.al_base_graph.proofs.ReverseLemmas.{AddsTo, IsReverseBelow-none, IsReverseBelow-more, IsReverseBelow-all}
use Rattle.al_base_graph.proofs.graph.Graph.reversed.Goals as goal

pub loop-node-init : goal.loop-node-init
loop-node-init c =
    IsReverseBelow-none c.args.self.now _ (c.in_ok-graph.ensures ∙ ap (λ n. replicate n []) c.count.ensures)

pub loop-node-preserved : goal.loop-node-preserved
loop-node-preserved c =
    let g = c.args.self.now in
    let node = c.loop-node.node in
    let P : List ℕ → Type 0 = λ xs. AddsTo c.loop-node.graph c.add_from_all.new.self xs node in
    let adds : AddsTo c.loop-node.graph c.add_from_all.new.self c.successors.result.now node = record { count = c.in_ok-add_from_all.ensures.count; steps = c.in_ok-add_from_all.ensures.steps } in
    IsReverseBelow-more g c.loop-node.graph c.add_from_all.new.self node c.loop-node.invariant (subst P c.successors.ensures.value adds)

pub returns : goal.returns
returns c = IsReverseBelow-all c.args.self.now c.loop-node.graph c.loop-node.node (omega arith) c.loop-node.invariant
