use Rattle.std.proofs.Common.{ℕ, List, subst, arith}
use Rattle.al_base_graph.specs.Walks.{IsWalk}
use Rattle.al_base_graph.proofs.EndLemmas.{walk_marks}
use Rattle.al_base_graph.proofs.walk.on_cycles.Goals as goal

pub returns : goal.returns
returns c =
    let g : List (List ℕ) = c.args.graph.now in
    let v = c.loop-node.walk in
    let P : List ℕ → Type 0 = λ xs. IsWalk g v.places.items v.left.items v.path.items xs v.begins.items v.flags.items in
    walk_marks (subst P c.loop-node.invariant.between c.loop-node.invariant.walk) (λ a l. c.loop-node.invariant.seen a (omega arith))
