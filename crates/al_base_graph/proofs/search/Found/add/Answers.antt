use Rattle.std.proofs.Common.{◌≡◌, false, List, ℕ, get_or, set, true, subst, sym, ◌∙◌}
use Rattle.std.proofs.lemmas.List.{get_or_read}
use Rattle.al_base_graph.specs.Searches.{AreFound}
use Rattle.al_base_graph.proofs.SearchLemmas.{AreFound-add}
use Rattle.al_base_graph.proofs.search.Found.add.Goals as goal

pub returns-clause-found : goal.returns-clause-found
returns-clause-found c =
    let flags = c.args.self.now.flags.items in
    let P : List ℕ → Type 0 = λ xs. AreFound (set flags c.args.node true) xs in
    let unset : get_or flags c.args.node false ≡ false = sym (get_or_read flags c.args.node _ c.requires.node_in c.index.ensures false) ∙ c.if-index.false in
    subst P (sym c.in_ok-push.ensures.items) (AreFound-add flags c.args.self.now.nodes.items c.args.node c.requires.node_in unset c.requires.found)
