use Rattle.std.proofs.Common.{◌≡◌, ℕ, ◌<◌, ◌≤◌, List, length, get_or, subst, ap, ◌∙◌, rules, arith}
use Rattle.std.proofs.lemmas.List.{get_or_read}
use Rattle.al_base_graph.specs.Graphs.{successors_of}
use Rattle.al_base_graph.specs.Searches.{Grows}
use Rattle.al_base_graph.proofs.SearchLemmas.{found_within, IsSearched-none, IsSearched-more, IsSearched-all, more_found}
use Rattle.al_base_graph.proofs.search.search.Goals as goal

pub nodes-init : goal.nodes-init
nodes-init c =
    let P : List ℕ → Type 0 = λ xs. Grows xs c.add_all.new.self.nodes.items c.args.starts.now in
    record {
      found = c.in_ok-add_all.ensures.found;
      count = c.in_ok-add_all.ensures.count ∙ c.in_ok-found.ensures.count ∙ c.count.ensures;
      within = omega arith;
      searched = IsSearched-none _ _ _ (subst P c.in_ok-found.ensures.empty c.in_ok-add_all.ensures.grows);
    }

pub successors-requires : goal.successors-requires
successors-requires c =
    let nodes = c.nodes.found.nodes.items in
    let l : c.nodes.next < length nodes = search rules in
    let within = found_within c.nodes.found.flags.items nodes c.nodes.next c.index-node.result.now c.nodes.invariant.found l in
    let read = c.index-node.ensures in
    let count = c.nodes.invariant.count in
    omega arith

pub nodes-preserved : goal.nodes-preserved
nodes-preserved c =
    let nodes = c.nodes.found.nodes.items in
    let next = c.nodes.next in
    let after = c.add_all-in-nodes.new.self.nodes.items in
    let l : next < length nodes = search rules in
    let read : c.index-node.result.now ≡ get_or nodes next 0 = get_or_read nodes next _ l c.index-node.ensures 0 in
    let P : List ℕ → Type 0 = λ xs. Grows nodes after xs in
    let grows = subst P (c.successors.ensures.value ∙ ap (λ a. successors_of c.args.graph.now a) read) c.in_ok-add_all-2.ensures.grows in
    record {
      found = c.in_ok-add_all-2.ensures.found;
      count = c.in_ok-add_all-2.ensures.count ∙ c.nodes.invariant.count;
      within = more_found nodes after next _ l grows;
      searched = IsSearched-more c.args.graph.now c.args.starts.now nodes after next l c.nodes.invariant.searched grows;
    }

pub returns-clause-reached : goal.returns-clause-reached
returns-clause-reached c =
    let whole : length c.nodes.found.nodes.items ≤ c.nodes.next = search rules in
    IsSearched-all c.args.graph.now c.args.starts.now c.nodes.found.nodes.items c.nodes.next whole c.nodes.invariant.searched
