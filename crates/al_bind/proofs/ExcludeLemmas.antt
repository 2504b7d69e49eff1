-- No partition has both an order and a cycle.
use Rattle.std.proofs.Common.{◌≡◌, ◌↔◌, inl, inr, suc, ◌<◌, List, [], ◌∷◌, length, get_or, refl, sym, ap, subst, ◌∙◌, arith}
use Rattle.std.specs.List.{Contains}
use Rattle.std.specs.List.Sorted.{IsStrictlySortedBy}
use Rattle.std.specs.Ordering.{ordering_reverse}
use Rattle.std.specs.declared.cmp.Ordering.TheVariants.{Less}
use Rattle.std.proofs.lemmas.Map.Keys.{Less-from_sorted, sorted_tail}
use Rattle.al_base.specs.Batch.{Key}
use Rattle.al_base_graph.proofs.Members.{nowhere, first, later, first_or_later}
use Rattle.al_base_graph.specs.Relations.{IsOrderBy}
use Rattle.al_base_graph.specs.Ties.{graph_from}
use Rattle.al_base_graph.proofs.LawLemmas.{cycle_stuck}
use Rattle.al_base_graph.proofs.PlacingLemmas.{stuck_within}
use Rattle.al_base_graph.proofs.RelationLemmas.{none_held}
use Rattle.al_base_graph.proofs.TieLemmas.{step_tied}
use Rattle.al_unit_graph.specs.Orders.{key_cmp}
use Rattle.al_bind.specs.Laws.{OrderExcludesCycle}
use Rattle.al_bind.specs.Numbers.{ComesAfter, nodes_among}
use Rattle.al_bind.proofs.BindLemmas.{graph_count, ties_within}
use Rattle.al_bind.proofs.PlaceLemmas.{key_itself, key_total}

-- a list in order has its first key before the others
below : (x : Key) (xs : List Key) → IsStrictlySortedBy key_cmp (x ∷ xs) → (y : Key) → Contains xs y → key_cmp x y ≡ Less
below x xs sorted y (k, within, is) = subst (λ (z : Key). key_cmp x z ≡ Less) is (Less-from_sorted key_cmp (x ∷ xs) 0 (suc k) y sorted (omega arith) (omega (arith, within)))

not_below_itself : (x : Key) → key_cmp x x ≡ Less → ⊥
not_below_itself x is = let e = key_itself x in absurd (cc)

not_both_ways : (x y : Key) → key_cmp x y ≡ Less → key_cmp y x ≡ Less → ⊥
not_both_ways x y one two = let turned = key_total.antisymm x y in let r = ap ordering_reverse two in absurd (cc)

-- two lists in order that have the same keys have the same first one, and are the same
same_first : (x y : Key) (xs ys : List Key) → IsStrictlySortedBy key_cmp (x ∷ xs) → IsStrictlySortedBy key_cmp (y ∷ ys) → Contains (y ∷ ys) x → Contains (x ∷ xs) y → x ≡ y
same_first x y xs ys one two c d =
    elim (first_or_later y ys x c) [
      | inl same ↦ sym same
      | inr after ↦ elim (first_or_later x xs y d) [ inl same ↦ same | inr too ↦ absurd (not_both_ways x y (below x xs one y too) (below y ys two x after)) ]
    ]

after_first : (x y k : Key) (xs ys : List Key) → IsStrictlySortedBy key_cmp (x ∷ xs) → y ≡ x → Contains xs k → Contains (y ∷ ys) k → Contains ys k
after_first x y k xs ys sorted heads c d =
    elim (first_or_later y ys k d) [
      | inl same ↦ absurd (not_below_itself x (subst (λ (z : Key). key_cmp x z ≡ Less) (sym same ∙ heads) (below x xs sorted k c)))
      | inr old ↦ old
    ]

same_keys : (xs ys : List Key) → IsStrictlySortedBy key_cmp xs → IsStrictlySortedBy key_cmp ys → ((k : Key) → Contains xs k ↔ Contains ys k) → xs ≡ ys
same_keys [] [] one two same = refl
same_keys [] (y ∷ ys) one two same = absurd (nowhere y ((same y).1 (first y ys)))
same_keys (x ∷ xs) [] one two same = absurd (nowhere x ((same x).0 (first x xs)))
same_keys (x ∷ xs) (y ∷ ys) one two same =
    let heads : x ≡ y = same_first x y xs ys one two ((same x).0 (first x xs)) ((same y).1 (first y ys)) in
    let rest : xs ≡ ys = same_keys xs ys (sorted_tail key_cmp x xs one) (sorted_tail key_cmp y ys two) (λ k. (
      (λ c. after_first x y k xs ys one (sym heads) c ((same k).0 (later x xs k c))),
      (λ c. after_first y x k ys xs two heads c ((same k).1 (later y ys k c))),
    )) in
    ap (λ (zs : List Key). x ∷ zs) rest ∙ ap (λ (z : Key). z ∷ ys) heads

pub excludes : OrderExcludesCycle
excludes lib main items lines is shown =
    let (cycle, is_cycle, are_lines) = shown.fault in
    let same : shown.keys ≡ is.keys = same_keys shown.keys is.keys shown.numbered.lists.ascend is.lists.ascend (λ k. ((λ c. (is.lists.all k).1 ((shown.numbered.lists.all k).0 c)), (λ c. (shown.numbered.lists.all k).1 ((is.lists.all k).0 c)))) in
    let count = length (nodes_among lib shown.keys) in
    let g = graph_from count shown.edges in
    let within = ties_within lib main shown.keys shown.edges (λ t c. (shown.numbered.tells t).0 c) in
    let ordered = subst (λ (ks : List Key). IsOrderBy (length (nodes_among lib ks)) (ComesAfter lib main ks) is.order) (sym same) is.ordered in
    let (held, each, begins) = cycle_stuck g cycle is_cycle 0 is_cycle.some in
    let below : get_or cycle 0 0 < length g = stuck_within g (get_or cycle 0 0) (held, each, begins) in
    let size = graph_count count shown.edges in
    none_held count (ComesAfter lib main shown.keys) is.order ordered held (λ a h.
    let (b, step, b_held) = each a h in
    let (t, c, between) = step_tied count shown.edges within a b step in
    (b, (t, (shown.numbered.tells t).0 c, between), b_held)) (get_or cycle 0 0) (omega (arith, below, size)) begins
