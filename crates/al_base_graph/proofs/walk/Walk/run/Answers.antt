use Rattle.std.proofs.Common.{◌≡◌, ℕ, ◌<◌, Some, Option, List, [], ◌∷◌, ◌++◌, length, get_or, sym, ap, ◌∙◌, inl, inr, arith}
use Rattle.std.specs.Option.{option_to_list}
use Rattle.std.proofs.lemmas.Bool.{cases_lt}
use Rattle.std.proofs.lemmas.List.{get_or_read, get_or_past}
use Rattle.std.proofs.lemmas.List.Elements.{Contains-push}
use Rattle.al_base_graph.specs.Walks.{IsWalk}
use Rattle.al_base_graph.specs.declared.walk.Walk.{Walk}
use Rattle.al_base_graph.specs.declared.walk.Place.TheVariants.{Unseen, OnPath}
use Rattle.al_base_graph.proofs.ListLemmas.{Contains-same}
use Rattle.al_base_graph.proofs.walk.Walk.run.Goals as goal

-- the node that was visited last
module _ (g : List (List ℕ)) (s : Walk) (front : List ℕ) (at : ℕ) (w : IsWalk g s.places.items s.left.items s.path.items s.visiting.items s.begins.items s.flags.items) (is : s.visiting.items ≡ front ++ at ∷ []) where
  within : at < length s.path.items
  within = w.visiting_within at (Contains-same _ _ at (sym is) (Contains-push front at))

  node_within : get_or s.path.items at 0 < length s.left.items
  node_within =
      let node : ℕ = get_or s.path.items at 0 in
      elim (cases_lt node (length s.places.items)) [
        | inl below ↦ let e = w.places_count in let f = w.left_count in omega arith
        | inr past ↦ let q : OnPath at ≡ Unseen = sym (w.on_path at within) ∙ get_or_past s.places.items node Unseen past in absurd cc
      ]

  left_read : (node n : ℕ) → node ≡ get_or s.path.items at node → n ≡ get_or s.left.items node n → get_or s.left.items (get_or s.path.items at 0) 0 ≡ n
  left_read node n e f =
      let node_is : node ≡ get_or s.path.items at 0 = get_or_read s.path.items at node within e 0 in
      let l : node < length s.left.items = let m = node_within in omega arith in
      ap (λ k. get_or s.left.items k 0) (sym node_is) ∙ sym (get_or_read s.left.items node n l f 0)

popped : (old front : List ℕ) (at : ℕ) (o : Option ℕ) → old ≡ front ++ option_to_list o → o ≡ Some at → old ≡ front ++ at ∷ []
popped old front at o e f = e ∙ ap (λ p. front ++ option_to_list p) f

pub index-requires : goal.index-requires
index-requires c =
    let m = within c.args.graph.now c.nodes.self c.pop.new.self.items c.in-Some.at c.nodes.invariant.walk (popped _ _ _ _ c.pop.ensures.items c.in-Some.is) in
    let n = c.nodes.self.path.ok.0 in
    omega arith

pub index-requires-in-Some : goal.index-requires-in-Some
index-requires-in-Some c =
    let is = popped _ _ _ _ c.pop.ensures.items c.in-Some.is in
    let m = within c.args.graph.now c.nodes.self c.pop.new.self.items c.in-Some.at c.nodes.invariant.walk is in
    let k = node_within c.args.graph.now c.nodes.self c.pop.new.self.items c.in-Some.at c.nodes.invariant.walk is in
    let e = get_or_read c.nodes.self.path.items c.in-Some.at _ m c.index.ensures 0 in
    let n = c.nodes.self.left.ok.0 in
    omega arith

pub look-requires-clause-at_in : goal.look-requires-clause-at_in
look-requires-clause-at_in c =
    within c.args.graph.now c.nodes.self c.pop.new.self.items c.in-Some.at c.nodes.invariant.walk (popped _ _ _ _ c.pop.ensures.items c.in-Some.is)

pub look-requires-clause-some_left : goal.look-requires-clause-some_left
look-requires-clause-some_left c =
    let e = left_read c.args.graph.now c.nodes.self c.pop.new.self.items c.in-Some.at c.nodes.invariant.walk (popped _ _ _ _ c.pop.ensures.items c.in-Some.is) _ _ c.index.ensures c.index-in-Some.ensures in
    let more = c.if-index-gt0.true in
    omega arith

pub leave-requires-clause-none_left : goal.leave-requires-clause-none_left
leave-requires-clause-none_left c =
    let e = left_read c.args.graph.now c.nodes.self c.pop.new.self.items c.in-Some.at c.nodes.invariant.walk (popped _ _ _ _ c.pop.ensures.items c.in-Some.is) _ _ c.index.ensures c.index-in-Some.ensures in
    let zero = c.if-index-gt0.false in
    omega arith
