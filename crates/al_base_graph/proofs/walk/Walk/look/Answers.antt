use Rattle.std.proofs.Common.{◌≡◌, ℕ, ◌-◌, ◌<◌, List, length, get_or, set, subst, sym, ap, ◌∙◌, arith}
use Rattle.std.proofs.lemmas.List.{get_or_read}
use Rattle.al_base_graph.specs.Graphs.{successors_of}
use Rattle.al_base_graph.specs.Walks.{IsWalk, place_of}
use Rattle.al_base_graph.specs.declared.walk.Walk.{Walk}
use Rattle.al_base_graph.specs.declared.walk.Place.TheVariants.{Unseen}
use Rattle.al_base_graph.proofs.ListLemmas.{within_from_some}
use Rattle.al_base_graph.proofs.LookLemmas.{look_new, look_back, look_done, IsWalk-same}
use Rattle.al_base_graph.proofs.walk.Walk.look.Goals as goal
use Rattle.al_base_graph.proofs.walk.Walk.look.Goals.{in-Unseen+in_ok-enter-in-Unseen, in-OnPath, in-Done}

pub returns-clause-walk : goal.returns-clause-walk
returns-clause-walk c =
    let g : List (List ℕ) = c.args.graph.now in
    let s : Walk = c.args.self.now in
    let path : List ℕ = s.path.items in
    let left : List ℕ = s.left.items in
    let at : ℕ = c.args.at in
    let node : ℕ = c.index-node.result.now in
    let n : ℕ = c.index.result.now in
    let next : ℕ = get_or c.successors.result.now (n - 1) 0 in
    let w : IsWalk g s.places.items left path s.visiting.items s.begins.items s.flags.items = c.requires.walk in
    let node_is : get_or path at 0 ≡ node = sym (get_or_read path at node c.requires.at_in c.index-node.ensures 0) in
    let P : ℕ → Type 0 = λ x. 0 < get_or left x 0 in
    let there : 0 < get_or left node 0 = subst P node_is c.requires.some_left in
    let left_is : get_or left node 0 ≡ n = sym (get_or_read left node n (within_from_some left node there) c.index.ensures 0) in
    let some : 0 < n = omega arith in
    let next_is : get_or (successors_of g node) (n - 1) 0 ≡ next = ap (λ (xs : List ℕ). get_or xs (n - 1) 0) (sym c.successors.ensures.value) in
    let fits : n - 1 < length c.successors.result.now = let f = w.left_fits node in let e : length c.successors.result.now ≡ length (successors_of g node) = ap length c.successors.ensures.value in omega arith in
    let within : next < length g = c.successors.ensures.nodes (n - 1) 0 fits in
    let in_places : next < length s.places.items = let count = w.places_count in omega arith in
    let place_is : c.index-2.result.now ≡ place_of s.places.items next = get_or_read s.places.items next c.index-2.result.now in_places c.index-2.ensures Unseen in
    let Goal : Walk → Type 0 = λ v. IsWalk g v.places.items (set v.left.items node (n - 1)) v.path.items v.visiting.items v.begins.items v.flags.items in
    elim c.match-index.branch [
      | in-Unseen+in_ok-enter-in-Unseen v ↦
          let e = v.in_ok-enter-in-Unseen.ensures in
          subst Goal (sym v.self-is)
          (IsWalk-same e.places (ap (λ xs. set xs.items node (n - 1)) e.left) e.path e.visiting e.begins (ap (λ xs. xs.items) e.flags)
          (look_new g s.places.items left path s.visiting.items s.begins.items s.flags.items w at c.requires.at_in c.requires.last node n next node_is left_is some next_is within (sym place_is ∙ v.in-Unseen.is)))
      | in-OnPath v ↦
          subst Goal (sym v.self-is)
          (look_back g s.places.items left path s.visiting.items s.begins.items s.flags.items w at c.requires.at_in c.requires.last node n next node_is left_is some next_is v.in-OnPath.to v.cut.new.numbers.items (sym place_is ∙ v.in-OnPath.is) v.cut.ensures)
      | in-Done v ↦
          subst Goal (sym v.self-is)
          (look_done g s.places.items left path s.visiting.items s.begins.items s.flags.items w at c.requires.at_in c.requires.last node n next node_is left_is some next_is (sym place_is ∙ v.in-Done.is))
    ]
