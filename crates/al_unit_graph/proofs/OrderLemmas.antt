-- Keys in order.
use Rattle.std.proofs.Common.{◌≡◌, List, [], ◌∷◌, ◌⊎◌, inl, inr, refl, ap, subst, sym, ◌∙◌}
use Rattle.std.specs.List.{Contains, fold, AllByRecursion}
use Rattle.std.specs.List.Sorted.{IsStrictlySortedBy}
use Rattle.std.specs.Cmp.{IsTotalOrder, on_total, then_total, nat_cmp_total}
use Rattle.std.specs.Cmp.Lexicographic.{nat_list_cmp_total}
use Rattle.std.specs.Ordering.{match_ordering, ordering_reverse, nat_cmp}
use Rattle.std.specs.declared.cmp.Ordering.{Ordering}
use Rattle.std.specs.declared.cmp.Ordering.TheVariants.{Less, Equal, Greater}
use Rattle.std.specs.BTreeSet.{insert_key}
use Rattle.std.proofs.lemmas.Map.Lookups.{CmpEqualImpliesEq, exact_bytes, exact_pairs}
use Rattle.al_base.specs.Batch.{Key}
use Rattle.al_base.specs.Files.{name_cmp}
use Rattle.al_base.specs.declared.unit_key.UnitKind.TheVariants.{Decl, Body, Sub}
use Rattle.al_base_graph.proofs.Members.{nowhere, first, later, first_or_later, one, the_one}
use Rattle.al_unit_graph.specs.Orders.{kind_place, key_cmp, in_order}

module _ {K : Type 0} (R : K → K → Ordering) where
  module _ (exact : CmpEqualImpliesEq R) where
    from_by : (x : K) (xs : List K) (k : K) (o : Ordering) → (y : K) → (Contains (insert_key R xs k) y → Contains xs y ⊎ (k ≡ y)) → Contains (match_ordering o (k ∷ x ∷ xs) (x ∷ xs) (x ∷ insert_key R xs k)) y → Contains (x ∷ xs) y ⊎ (k ≡ y)
    from_by x xs k Less y rest c = elim (first_or_later k (x ∷ xs) y c) [ inl is ↦ inr is | inr h ↦ inl h ]
    from_by x xs k Equal y rest c = inl c
    from_by x xs k Greater y rest c =
        elim (first_or_later x (insert_key R xs k) y c) [
          | inl is ↦ inl (subst (λ v. Contains (x ∷ xs) v) is (first x xs))
          | inr h ↦ elim (rest h) [ inl old ↦ inl (later x xs y old) | inr new ↦ inr new ]
        ]

    pub from_inserted : (xs : List K) (k y : K) → Contains (insert_key R xs k) y → Contains xs y ⊎ (k ≡ y)
    from_inserted [] k y c = inr (the_one k y c)
    from_inserted (x ∷ xs) k y c = from_by x xs k (R k x) y (from_inserted xs k y) c

    into_by : (x : K) (xs : List K) (k : K) (o : Ordering) → R k x ≡ o → (y : K) → (Contains xs y ⊎ (k ≡ y) → Contains (insert_key R xs k) y) → Contains (x ∷ xs) y ⊎ (k ≡ y) → Contains (match_ordering o (k ∷ x ∷ xs) (x ∷ xs) (x ∷ insert_key R xs k)) y
    into_by x xs k Less is y rest (inl c) = later k (x ∷ xs) y c
    into_by x xs k Less is y rest (inr new) = subst (λ v. Contains (k ∷ x ∷ xs) v) new (first k (x ∷ xs))
    into_by x xs k Equal is y rest (inl c) = c
    into_by x xs k Equal is y rest (inr new) = subst (λ v. Contains (x ∷ xs) v) (sym (exact k x is) ∙ new) (first x xs)
    into_by x xs k Greater is y rest (inl c) =
        elim (first_or_later x xs y c) [
          | inl same ↦ subst (λ v. Contains (x ∷ insert_key R xs k) v) same (first x (insert_key R xs k))
          | inr h ↦ later x (insert_key R xs k) y (rest (inl h))
        ]
    into_by x xs k Greater is y rest (inr new) = later x (insert_key R xs k) y (rest (inr new))

    pub into_inserted : (xs : List K) (k y : K) → Contains xs y ⊎ (k ≡ y) → Contains (insert_key R xs k) y
    into_inserted [] k y (inl c) = absurd (nowhere y c)
    into_inserted [] k y (inr new) = subst (λ v. Contains (k ∷ []) v) new (one k)
    into_inserted (x ∷ xs) k y h = into_by x xs k (R k x) refl y (into_inserted xs k y) h

    from_fold : (xs ys : List K) (y : K) → Contains (fold (insert_key R) xs ys) y → Contains xs y ⊎ Contains ys y
    from_fold xs [] y c = inl c
    from_fold xs (k ∷ ks) y c =
        elim (from_fold (insert_key R xs k) ks y c) [
          | inr h ↦ inr (later k ks y h)
          | inl h ↦ elim (from_inserted xs k y h) [ inl old ↦ inl old | inr new ↦ inr (subst (λ v. Contains (k ∷ ks) v) new (first k ks)) ]
        ]

    into_fold : (xs ys : List K) (y : K) → Contains xs y ⊎ Contains ys y → Contains (fold (insert_key R) xs ys) y
    into_fold xs [] y (inl c) = c
    into_fold xs [] y (inr c) = absurd (nowhere y c)
    into_fold xs (k ∷ ks) y (inl c) = into_fold (insert_key R xs k) ks y (inl (into_inserted xs k y (inl c)))
    into_fold xs (k ∷ ks) y (inr c) =
        into_fold (insert_key R xs k) ks y (elim (first_or_later k ks y c) [ inl is ↦ inl (into_inserted xs k y (inr is)) | inr h ↦ inr h ])

  module _ (total : IsTotalOrder R) where
    below_all : (k x : K) (xs : List K) → R k x ≡ Less → AllByRecursion (λ y. R x y ≡ Less) xs → AllByRecursion (λ y. R k y ≡ Less) xs
    below_all k x [] less all = tt
    below_all k x (y ∷ ys) less all = (total.trans k x y less all.0, below_all k x ys less all.1)

    all_by : (P : K → Type 0) (x : K) (xs : List K) (k : K) (o : Ordering) → P k → P x → AllByRecursion P xs → AllByRecursion P (insert_key R xs k) → AllByRecursion P (match_ordering o (k ∷ x ∷ xs) (x ∷ xs) (x ∷ insert_key R xs k))
    all_by P x xs k Less here head tail rest = (here, (head, tail))
    all_by P x xs k Equal here head tail rest = (head, tail)
    all_by P x xs k Greater here head tail rest = (head, rest)

    all_inserted : (P : K → Type 0) (xs : List K) (k : K) → P k → AllByRecursion P xs → AllByRecursion P (insert_key R xs k)
    all_inserted P [] k here all = (here, tt)
    all_inserted P (x ∷ xs) k here all = all_by P x xs k (R k x) here all.0 all.1 (all_inserted P xs k here all.1)

    sorted_by : (x : K) (xs : List K) (k : K) (o : Ordering) → R k x ≡ o → IsStrictlySortedBy R (x ∷ xs) → IsStrictlySortedBy R (insert_key R xs k) → IsStrictlySortedBy R (match_ordering o (k ∷ x ∷ xs) (x ∷ xs) (x ∷ insert_key R xs k))
    unfolding IsStrictlySortedBy
    sorted_by x xs k Less is sorted rest = ((is, below_all k x xs is sorted.0), sorted)
    sorted_by x xs k Equal is sorted rest = sorted
    sorted_by x xs k Greater is sorted rest =
        (all_inserted (λ y. R x y ≡ Less) xs k (total.antisymm x k ∙ ap ordering_reverse is) sorted.0, rest)

    pub sorted_inserted : (xs : List K) (k : K) → IsStrictlySortedBy R xs → IsStrictlySortedBy R (insert_key R xs k)
    unfolding IsStrictlySortedBy
    sorted_inserted [] k sorted = (tt, tt)
    sorted_inserted (x ∷ xs) k sorted = sorted_by x xs k (R k x) refl sorted (sorted_inserted xs k sorted.1)

    sorted_fold : (xs ys : List K) → IsStrictlySortedBy R xs → IsStrictlySortedBy R (fold (insert_key R) xs ys)
    sorted_fold xs [] sorted = sorted
    sorted_fold xs (k ∷ ks) sorted = sorted_fold (insert_key R xs k) ks (sorted_inserted xs k sorted)

    pub sorted_none : IsStrictlySortedBy R []
    unfolding IsStrictlySortedBy
    sorted_none = tt

kind_exact : CmpEqualImpliesEq (λ a b. nat_cmp (kind_place a) (kind_place b))
kind_exact Decl Decl is = refl
kind_exact Body Body is = refl
kind_exact Sub Sub is = refl
kind_exact Decl Body is = absurd (cc)
kind_exact Decl Sub is = absurd (cc)
kind_exact Body Decl is = absurd (cc)
kind_exact Body Sub is = absurd (cc)
kind_exact Sub Decl is = absurd (cc)
kind_exact Sub Body is = absurd (cc)

key_exact : CmpEqualImpliesEq key_cmp
key_exact = exact_pairs name_cmp (λ a b. nat_cmp (kind_place a) (kind_place b)) exact_bytes kind_exact

key_total : IsTotalOrder key_cmp
key_total = then_total (on_total (λ (k : Key). k.0) nat_list_cmp_total) (on_total (λ (k : Key). kind_place k.1) nat_cmp_total)

pub from_in_order : (ks : List Key) (k : Key) → Contains (in_order ks) k → Contains ks k
unfolding in_order
from_in_order ks k c = elim (from_fold key_cmp key_exact [] ks k c) [ inl h ↦ absurd (nowhere k h) | inr h ↦ h ]

pub into_in_order : (ks : List Key) (k : Key) → Contains ks k → Contains (in_order ks) k
unfolding in_order
into_in_order ks k c = into_fold key_cmp key_exact [] ks k (inr c)

pub in_order_ascends : (ks : List Key) → IsStrictlySortedBy key_cmp (in_order ks)
unfolding in_order
in_order_ascends ks = sorted_fold key_cmp key_total [] ks (sorted_none key_cmp key_total)
