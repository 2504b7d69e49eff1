use Rattle.std.proofs.Common.{◌≡◌, ℕ, ◌-◌, length, get_or, set, slice_index, inl, inr, sym, ap, ◌∙◌, arith}
use Rattle.std.proofs.lemmas.Grind.{common_steps}
use Rattle.al_base_graph.proofs.placing.Placing.close.Goals as goal

pub returns-in_ok-add-clause-ready : goal.returns-in_ok-add-clause-ready
returns-in_ok-add-clause-ready c =
    let one : get_or c.args.self.now.missing.items c.args.node 0 ≡ 1 = grind (arith, common_steps, c.index.ensures, c.if-index-eq0.true, c.requires.some, c.requires.node_in, c.index_mut.ensures) in
    λ a. (
      λ h. elim ((c.in_ok-add.ensures a).0 h) [ inl old ↦ inl old | inr e ↦ inr (e, one) ],
      λ r. elim r [ inl old ↦ (c.in_ok-add.ensures a).1 (inl old) | inr e ↦ (c.in_ok-add.ensures a).1 (inr e.0) ],
    )
