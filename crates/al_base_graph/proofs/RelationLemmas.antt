-- The order by a relation: from that of a graph whose steps lead to all that come before a node; and what isn't in it.
use Rattle.std.proofs.Common.{◌≡◌, ◌⊎◌, ℕ, zero, suc, ◌+◌, ◌<◌, ◌≤◌, Bool, IsTrue, List, length, get_or, take, refl, sym, subst, inl, inr, arith}
use Rattle.std.specs.List.{Contains}
use Rattle.al_base_graph.specs.Graphs.{Step, Reaches}
use Rattle.al_base_graph.specs.Graphs.Reaches.{here, further}
use Rattle.al_base_graph.specs.Orders.{IsAvailable, IsOrder}
use Rattle.al_base_graph.specs.Relations.{IsFree, IsOrderBy}
use Rattle.al_base_graph.proofs.PlacingLemmas.{from_take, into_take, place_in, placed_before}

-- the predecessors of what stands among the first ones do
front_closed : (g : List (List ℕ)) (order : List ℕ) → IsOrder g order → (i a b : ℕ) → Contains (take i order) a → Step g a b → Contains (take i order) b
front_closed g order is i a b there step =
    let p = from_take i order a there in
    let first : p.0 < i = p.1 in
    let within : p.0 < length order = p.2 in
    let r = placed_before g order is.takes_least p.0 p.2 b (subst (λ (x : ℕ). Step g x b) (sym p.3) step) in
    let less : r.0 < p.0 = r.1 in
    subst (λ (x : ℕ). Contains (take i order) x) r.2 (into_take i order r.0 (omega arith) (omega arith))

-- what the next node reaches is that node or stands before it
reached_before : (g : List (List ℕ)) (order : List ℕ) → IsOrder g order → (i a b : ℕ) → IsAvailable g (take i order) a → Reaches g a b → (a ≡ b) ⊎ Contains (take i order) b
reached_before g order is i a b free here = inl refl
reached_before g order is i a b free (further c way step) =
    elim (reached_before g order is i a c free way) [
      | inl same ↦ inr (free.2 b (subst (λ (x : ℕ). Step g x b) (sym same) step))
      | inr there ↦ inr (front_closed g order is i c b there step)
    ]

module _ (g : List (List ℕ)) (order : List ℕ) (is : IsOrder g order) (count : ℕ) (size : length g ≡ count) (Before : ℕ → ℕ → Type 0) (sound : (a b : ℕ) → Step g a b → Before a b) (enough : (a b : ℕ) → Before a b → Reaches g a b × (a ≡ b → ⊥)) where
  free_next : (i : ℕ) → (l : i < length order) → IsFree count Before (take i order) (get_or order i 0)
  free_next i l =
      let a = get_or order i 0 in
      let next = (is.takes_least i l).0 in
      let below : a < length g = next.0 in (
        omega (arith, below, size),
        next.1,
        λ b before.
            let way = enough a b before in
            elim (reached_before g order is i a b next way.0) [ inl same ↦ absurd (way.1 same) | inr there ↦ there ],
      )

  -- steps that lead to all that come before a node give the order by these
  pub steps_suffice : IsOrderBy count Before order
  steps_suffice = record {
    all = λ a l. is.all a (omega (arith, l, size));
    takes_least = λ i l. (free_next i l, λ b free. let below : b < count = free.0 in (is.takes_least i l).1 b (omega (arith, below, size), free.1, λ c step. free.2 c (sound b c step)));
  }

module _ (count : ℕ) (Before : ℕ → ℕ → Type 0) (order : List ℕ) (is : IsOrderBy count Before order) where
  -- what comes before a node stands before it
  pub stands_before : (i : ℕ) → i < length order → (b : ℕ) → Before (get_or order i 0) b → (j : ℕ) × (j < i) × (get_or order j 0 ≡ b)
  stands_before i l b before = let r = from_take i order b ((is.takes_least i l).0.2 b before) in (r.0, r.1, r.3)

  none_upto : (held : ℕ → Bool) → ((a : ℕ) → IsTrue (held a) → (b : ℕ) × Before a b × IsTrue (held b)) → (n i : ℕ) → i < n → i < length order → IsTrue (held (get_or order i 0)) → ⊥
  none_upto held each zero i l m t = absurd (omega arith)
  none_upto held each (suc n) i l m t =
      let e = each (get_or order i 0) t in
      let r = stands_before i m e.0 e.1 in
      let j : r.0 < i = r.1 in
      none_upto held each n r.0 (omega arith) (omega arith) (subst (λ (x : ℕ). IsTrue (held x)) (sym r.2) e.2)

  -- a set each of whose nodes has one of the set before it has none of the nodes
  pub none_held : (held : ℕ → Bool) → ((a : ℕ) → IsTrue (held a) → (b : ℕ) × Before a b × IsTrue (held b)) → (a : ℕ) → a < count → IsTrue (held a) → ⊥
  none_held held each a l t =
      let p = place_in order a (is.all a l) in
      none_upto held each (length order) p.0 p.1 p.1 (subst (λ (x : ℕ). IsTrue (held x)) (sym p.2) t)
