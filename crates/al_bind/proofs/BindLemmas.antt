-- The order of the nodes, and the lines of a cycle, in terms of items.
use Rattle.std.proofs.Common.{◌≡◌, inl, inr, ℕ, ◌<◌, List, [], ◌∷◌, length, get_or, replicate, refl, subst, ◌∙◌, arith}
use Rattle.std.specs.List.{All, Contains, fold}
use Rattle.std.proofs.lemmas.List.{get_or_default, length-replicate}
use Rattle.std.proofs.lemmas.List.Elements.{Contains-get_or, All-head, All-tail}
use Rattle.al_base.specs.Batch.{Key}
use Rattle.al_base_graph.specs.Graphs.{Step, with_step}
use Rattle.al_base_graph.proofs.Members.{first_or_later, nowhere}
use Rattle.al_base_graph.proofs.StepLemmas.{Step-added, Step-kept, length-with_step}
use Rattle.al_base_graph.specs.Orders.{IsOrder}
use Rattle.al_base_graph.specs.Ties.{IsFault, graph_from}
use Rattle.al_base_graph.specs.declared.edge.Edge.{Edge}
use Rattle.al_unit_graph.specs.Headers.{Library}
use Rattle.al_bind.specs.Numbers.{TellsEdge, nodes_among}

pub all_of : {X : Type 0} (P : X → Type 0) (xs : List X) → ((x : X) → Contains xs x → P x) → All P xs
all_of P xs each = λ k d l. each (get_or xs k d) (Contains-get_or xs k d l)

length_folded : (edges : List Edge) (g : List (List ℕ)) → length (fold (λ h t. with_step h t.after t.before) g edges) ≡ length g
length_folded [] g = refl
length_folded (t ∷ ts) g = length_folded ts (with_step g t.after t.before) ∙ length-with_step g t.after t.before

pub graph_count : (count : ℕ) (edges : List Edge) → length (graph_from count edges) ≡ count
graph_count count edges = length_folded edges (replicate count []) ∙ length-replicate {A = List ℕ} count []

pub order_within : (count : ℕ) (edges : List Edge) (order : List ℕ) → IsOrder (graph_from count edges) order → All (λ i. i < count) order
order_within count edges order is = λ k d l.
    let below : get_or order k 0 < length (graph_from count edges) = (is.takes_least k l).0.0 in
    let same = get_or_default order k d 0 l in
    let size = graph_count count edges in
    omega (arith, below, same, size)

module _ (lib : Library) (main : List ℕ) (keys : List Key) (edges : List Edge) (sound : (t : Edge) → Contains edges t → TellsEdge lib main keys t) where
  pub ties_within : All (λ t. (t.after < length (nodes_among lib keys)) × (t.before < length (nodes_among lib keys))) edges
  ties_within = all_of (λ (t : Edge). (t.after < length (nodes_among lib keys)) × (t.before < length (nodes_among lib keys))) edges (λ t c. let edge = sound t c in (edge.after_at.0, edge.before_at.0))

  pub shown_within : (count : ℕ) (shown : List Edge) → IsFault count edges shown → All (λ t. (t.x < length keys) × (t.y < length keys)) shown
  shown_within count shown fault = λ k d l.
      let lines = fault.2 in
      let within : k < length fault.0 = omega (arith, l, lines.count) in
      let edge = sound (get_or shown k d) (lines.each k within d).0 in
      (edge.x_at.0, edge.y_at.0)

-- a tie is a step
step_kept : (edges : List Edge) (g : List (List ℕ)) (n : ℕ) → length g ≡ n → All (λ t. (t.after < n) × (t.before < n)) edges → (a b : ℕ) → Step g a b → Step (fold (λ h t. with_step h t.after t.before) g edges) a b
step_kept [] g n size all a b s = s
step_kept (t ∷ ts) g n size all a b s =
    let here = (All-head (λ u. (u.after < n) × (u.before < n)) t ts all).0 in
    step_kept ts (with_step g t.after t.before) n (length-with_step g t.after t.before ∙ size) (All-tail (λ u. (u.after < n) × (u.before < n)) t ts all) a b (Step-kept g t.after t.before (omega (arith, here, size)) a b s)

step_told : (edges : List Edge) (g : List (List ℕ)) (n : ℕ) → length g ≡ n → All (λ t. (t.after < n) × (t.before < n)) edges → (t : Edge) → Contains edges t → Step (fold (λ h u. with_step h u.after u.before) g edges) t.after t.before
step_told [] g n size all t c = absurd (nowhere t c)
step_told (u ∷ us) g n size all t c =
    let here = (All-head (λ v. (v.after < n) × (v.before < n)) u us all).0 in
    let rest = All-tail (λ v. (v.after < n) × (v.before < n)) u us all in
    let h = with_step g u.after u.before in
    let sized = length-with_step g u.after u.before ∙ size in
    elim (first_or_later u us t c) [
      | inl is ↦ subst (λ (v : Edge). Step (fold (λ k w. with_step k w.after w.before) h us) v.after v.before) is (step_kept us h n sized rest u.after u.before (Step-added g u.after u.before (omega (arith, here, size))))
      | inr old ↦ step_told us h n sized rest t old
    ]

pub tie_is_step : (count : ℕ) (edges : List Edge) → All (λ t. (t.after < count) × (t.before < count)) edges → (t : Edge) → Contains edges t → Step (graph_from count edges) t.after t.before
tie_is_step count edges all t c = step_told edges (replicate count []) count (length-replicate {A = List ℕ} count []) all t c
