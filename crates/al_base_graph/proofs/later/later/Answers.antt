use Rattle.std.proofs.Common.{◌≡◌, ℕ, List, eqb, ltb, cond, ◌+◌, ap, subst, ◌∙◌, arith}
use Rattle.std.proofs.lemmas.List.{length-replicate}
use Rattle.al_base_graph.specs.Graphs.{successors_of}
use Rattle.al_base_graph.specs.Placings.{times}
use Rattle.al_base_graph.proofs.CloseLemmas.{later_more, later_all}
use Rattle.al_base_graph.proofs.later.later.Goals as goal

pub loop-node-preserved : goal.loop-node-preserved
loop-node-preserved c =
    let g = c.args.graph.now in
    let n = c.loop-node.node in
    record {
      count = c.in_ok-add_from_all.ensures.count ∙ c.loop-node.invariant.count;
      times_so_far = λ a b.
          let P : List ℕ → Type 0 = λ xs. times a (successors_of c.add_from_all.new.graph b) ≡ times a (successors_of c.loop-node.later b) + cond (eqb n a) (times b xs) 0 in
          later_more a n _ _ (times b (successors_of g n)) (times b (successors_of g a)) (λ e. ap (λ k. times b (successors_of g k)) e) (subst P c.successors.ensures.value (c.in_ok-add_from_all.ensures.times a b)) (c.loop-node.invariant.times_so_far a b);
    }

pub returns : goal.returns
returns c = later_all c.args.graph.now c.loop-node.later c.loop-node.node (omega arith) c.loop-node.invariant.count c.loop-node.invariant.times_so_far
