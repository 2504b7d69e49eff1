use Rattle.std.proofs.Common.{◌+◌, ℕ, List, subst, sym, ap, ◌∙◌}
use Rattle.al_base_graph.proofs.FlagLemmas.{AreNumbers, AreNumbers-yes, AreNumbers-no, AreNumbers-all}
use Rattle.al_base_graph.proofs.sets.numbers.Goals as goal
use Rattle.al_base_graph.proofs.sets.numbers.Goals.{then-flag+in_ok-push, else-flag}

pub loop-node-preserved : goal.loop-node-preserved
loop-node-preserved c =
    let P : List ℕ → Type 0 = λ xs. AreNumbers c.args.flags.now (c.loop-node.node + 1) xs in
    elim c.if-flag.branch [
      | then-flag+in_ok-push w ↦
          subst P (sym (ap (λ v. v.items) w.nodes-is ∙ w.in_ok-push.ensures.items))
          (AreNumbers-yes c.args.flags.now c.loop-node.node c.loop-node.nodes.items c.loop-node.invariant w.if-flag.true)
      | else-flag w ↦
          subst P (sym (ap (λ v. v.items) w.nodes-is))
          (AreNumbers-no c.args.flags.now c.loop-node.node c.loop-node.nodes.items c.loop-node.invariant w.if-flag.false)
    ]

pub returns : goal.returns
returns c = AreNumbers-all c.args.flags.now c.loop-node.node c.loop-node.nodes.items c.loop-node-test.false c.loop-node.invariant
