use Rattle.std.proofs.Common.{◌≡◌, ℕ, ◌<◌, List, [], ◌∷◌, ◌++◌, length, get_or, take, subst, sym, arith}
use Rattle.std.proofs.lemmas.List.{take_more, take_all}
use Rattle.al_base_graph.proofs.ReverseLemmas.{AddsTo, AddsTo-push}
use Rattle.al_base_graph.proofs.graph.Graph.add_from_all.Goals as goal

pub loop-node-preserved : goal.loop-node-preserved
loop-node-preserved c =
    let nodes = c.args.nodes.now in
    let i = c.loop-node.node-index in
    let g = c.args.self.now in
    let to = c.args.to in
    let h = c.loop-node.self in
    let l : i < length nodes = omega arith in
    let m : get_or nodes i 0 < length h = let e : length h ≡ length g = c.loop-node.invariant.count in let b = c.requires.nodes_in i 0 l in omega arith in
    let P : List ℕ → Type 0 = λ xs. AddsTo g c.add.new.self xs to in
    let Q : List (List ℕ) → Type 0 = λ k. AddsTo g k (take i nodes ++ get_or nodes i 0 ∷ []) to in
    subst P (sym (take_more nodes i 0 l))
    (subst Q (sym c.in_ok-add.ensures.ok) (AddsTo-push g h (take i nodes) (get_or nodes i 0) to m c.loop-node.invariant))

pub returns-clause-steps : goal.returns-clause-steps
returns-clause-steps c =
    let nodes = c.args.nodes.now in
    let P : List ℕ → Type 0 = λ xs. AddsTo c.args.self.now c.loop-node.self xs c.args.to in
    let adds : AddsTo c.args.self.now c.loop-node.self nodes c.args.to = subst P (take_all c.loop-node.node-index nodes (omega arith)) c.loop-node.invariant in
    adds.steps
