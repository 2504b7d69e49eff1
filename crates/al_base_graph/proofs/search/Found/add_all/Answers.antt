use Rattle.std.proofs.Common.{ℕ, ◌<◌, List, length, subst, sym, arith}
use Rattle.std.proofs.lemmas.List.{take_more}
use Rattle.al_base_graph.specs.Searches.{Grows}
use Rattle.al_base_graph.proofs.SearchLemmas.{Grows-push}
use Rattle.al_base_graph.proofs.search.Found.add_all.Goals as goal

pub loop-node-preserved : goal.loop-node-preserved
loop-node-preserved c =
    let nodes = c.args.nodes.now in
    let i = c.loop-node.node-index in
    let l : i < length nodes = omega arith in
    let P : List ℕ → Type 0 = λ xs. Grows c.args.self.now.nodes.items c.add.new.self.nodes.items xs in
    record {
      found = c.in_ok-add.ensures.found;
      count = cc;
      grows = subst P (sym (take_more nodes i 0 l)) (Grows-push _ _ _ _ _ c.loop-node.invariant.grows c.in_ok-add.ensures.grows);
    }
