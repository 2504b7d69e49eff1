use Rattle.std.proofs.Common.{◌≡◌, ℕ, ◌<◌, List, [], length, set, subst, sym, ap, ◌∙◌, arith}
use Rattle.std.proofs.lemmas.List.{get_or_read}
use Rattle.al_base_graph.specs.Walks.{IsWalk, KeepsSeen, place_of}
use Rattle.al_base_graph.specs.declared.walk.Walk.{Walk}
use Rattle.al_base_graph.specs.declared.walk.Place.{Place}
use Rattle.al_base_graph.specs.declared.walk.Place.TheVariants.{Unseen, OnPath}
use Rattle.al_base_graph.proofs.EnterLemmas.{enter_walks, enter_keeps}
use Rattle.al_base_graph.proofs.LookLemmas.{IsWalk-same}
use Rattle.al_base_graph.proofs.EndLemmas.{empty_path, entered_model}
use Rattle.al_base_graph.proofs.walk.Walk.visit.Goals as goal

pub run-requires : goal.run-requires
run-requires c =
    let g : List (List ℕ) = c.args.graph.now in
    let s : Walk = c.args.self.now in
    let node : ℕ = c.args.node in
    let P : List ℕ → Type 0 = λ xs. IsWalk g s.places.items s.left.items s.path.items xs s.begins.items s.flags.items in
    let w0 : IsWalk g s.places.items s.left.items s.path.items [] s.begins.items s.flags.items = subst P c.requires.between c.requires.walk in
    let l : node < length s.places.items = let count = w0.places_count in let m = c.requires.node_in in omega arith in
    let unseen : place_of s.places.items node ≡ Unseen = sym (get_or_read s.places.items node _ l c.index.ensures Unseen) ∙ c.in-Unseen.is in
    let e = c.in_ok-enter.ensures in
    IsWalk-same e.places (ap (λ xs. xs.items) e.left) e.path e.visiting e.begins (ap (λ xs. xs.items) e.flags)
    (enter_walks g s.places.items s.left.items s.path.items s.visiting.items s.begins.items s.flags.items c.requires.walk node c.requires.node_in unseen (λ i m. absurd (empty_path w0 i m)))

pub returns-clause-visited : goal.returns-clause-visited
returns-clause-visited c =
    let s : Walk = c.args.self.now in
    let node : ℕ = c.args.node in
    let l : node < length s.places.items = let count = c.requires.walk.places_count in let m = c.requires.node_in in omega arith in
    let P : List Place → Type 0 = λ ps. KeepsSeen ps c.run.new.self.places.items in
    entered_model s.places.items c.run.new.self.places.items node (length s.path.items) l (subst P c.in_ok-enter.ensures.places c.in_ok-run.ensures.seen)

pub returns-clause-seen : goal.returns-clause-seen
returns-clause-seen c =
    let g : List (List ℕ) = c.args.graph.now in
    let s : Walk = c.args.self.now in
    let node : ℕ = c.args.node in
    let P : List ℕ → Type 0 = λ xs. IsWalk g s.places.items s.left.items s.path.items xs s.begins.items s.flags.items in
    let w0 : IsWalk g s.places.items s.left.items s.path.items [] s.begins.items s.flags.items = subst P c.requires.between c.requires.walk in
    let l : node < length s.places.items = let count = w0.places_count in let m = c.requires.node_in in omega arith in
    let unseen : place_of s.places.items node ≡ Unseen = sym (get_or_read s.places.items node _ l c.index.ensures Unseen) ∙ c.in-Unseen.is in
    let Q : List Place → Type 0 = λ ps. KeepsSeen ps c.run.new.self.places.items in
    λ a p. enter_keeps g s.places.items s.left.items s.path.items s.visiting.items s.begins.items s.flags.items c.requires.walk node c.requires.node_in unseen (λ i m. absurd (empty_path w0 i m)) a
    (let keeps : KeepsSeen (set s.places.items node (OnPath (length s.path.items))) c.run.new.self.places.items = subst Q c.in_ok-enter.ensures.places c.in_ok-run.ensures.seen in keeps a p)
