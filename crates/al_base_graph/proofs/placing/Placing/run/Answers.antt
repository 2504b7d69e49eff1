use Rattle.std.proofs.Common.{◌≡◌, ◌↔◌, ◌⊎◌, ℕ, ◌+◌, ◌≤◌, ◌<◌, List, [], ◌∷◌, ◌++◌, length, get_or, subst, sym, ap, ◌∙◌, arith}
use Rattle.std.specs.List.{Contains}
use Rattle.al_base_graph.specs.Graphs.{successors_of}
use Rattle.al_base_graph.specs.Placings.{times, AreLater, IsPlacing}
use Rattle.al_base_graph.specs.declared.placing.Placing.{Placing}
use Rattle.al_base_graph.proofs.PlacingLemmas.{b_ready, times_fit, IsPlacing-more, unplaced, unplaced_less}
use Rattle.al_base_graph.proofs.placing.Placing.run.Goals as goal

taken : (g : List (List ℕ)) (order missing old new : List ℕ) → old ≡ new → IsPlacing g order missing old → IsPlacing g order missing new
taken g order missing old new e placing = let P : List ℕ → Type 0 = λ ks. IsPlacing g order missing ks in subst P e placing

pub successors-requires : goal.successors-requires
successors-requires c =
    let placing = taken c.args.graph.now _ _ _ _ c.in-Some.ensures.taken c.nodes.invariant in
    let l = (b_ready c.args.graph.now c.args.later.now _ _ _ c.in-Some.node c.requires.later placing c.in-Some.ensures.least).0 in
    let n = c.requires.later.count in
    omega arith

pub close_all-requires-clause-some : goal.close_all-requires-clause-some
close_all-requires-clause-some c =
    let placing = taken c.args.graph.now _ _ _ _ c.in-Some.ensures.taken c.nodes.invariant in
    let P : List ℕ → Type 0 = λ xs. (a : ℕ) → times a xs ≤ get_or c.nodes.self.missing.items a 0 in
    subst P (sym c.successors.ensures.value) (times_fit c.args.graph.now c.args.later.now _ _ _ c.in-Some.node c.requires.later placing c.in-Some.ensures.least)

pub nodes-smaller : goal.nodes-smaller
nodes-smaller c =
    let placing = taken c.args.graph.now _ _ _ _ c.in-Some.ensures.taken c.nodes.invariant in
    let r = b_ready c.args.graph.now c.args.later.now _ _ _ c.in-Some.node c.requires.later placing c.in-Some.ensures.least in
    let P : List ℕ → Type 0 = λ xs. unplaced xs (length c.args.graph.now) < unplaced c.nodes.self.order.items (length c.args.graph.now) in
    subst P (sym (ap (λ v. v.items) c.in_ok-close_all.ensures.order ∙ c.in_ok-push.ensures.items)) (unplaced_less c.nodes.self.order.items c.in-Some.node (length c.args.graph.now) r.0 r.1)

pub nodes-preserved : goal.nodes-preserved
nodes-preserved c =
    let g = c.args.graph.now in
    let placing = taken g _ _ _ _ c.in-Some.ensures.taken c.nodes.invariant in
    let after = c.close_all.new.self in
    let P : List ℕ → Type 0 = λ xs. IsPlacing g xs after.missing.items after.ready.nodes.keys in
    let Q : List ℕ → Type 0 = λ xs. (a : ℕ) → get_or after.missing.items a 0 + times a xs ≡ get_or c.nodes.self.missing.items a 0 in
    let R : List ℕ → Type 0 = λ xs. (a : ℕ) → Contains after.ready.nodes.keys a ↔ (Contains c.take_least.new.self.nodes.keys a ⊎ ((0 < times a xs) × (get_or after.missing.items a 0 ≡ 0))) in
    subst P (sym (ap (λ v. v.items) c.in_ok-close_all.ensures.order ∙ c.in_ok-push.ensures.items))
    (IsPlacing-more g c.args.later.now _ _ _ c.in-Some.node c.requires.later placing c.in-Some.ensures.least after.missing.items after.ready.nodes.keys c.in_ok-close_all.ensures.count
    (subst Q c.successors.ensures.value c.in_ok-close_all.ensures.missing)
    (subst R c.successors.ensures.value c.in_ok-close_all.ensures.ready))
