-- Orders by a relation, and lists in order, are unique.
use Rattle.std.proofs.Common.{◌≡◌, ◌↔◌, ℕ, zero, suc, ◌+◌, ◌<◌, ◌≤◌, IsTrue, List, length, get_or, take, refl, sym, ◌∙◌, subst, inl, inr, arith}
use Rattle.std.specs.Cmp.{IsTotalOrder, both_ways}
use Rattle.std.specs.declared.cmp.Ordering.{Ordering}
use Rattle.std.specs.List.{Contains}
use Rattle.std.specs.List.Sorted.{IsStrictlySortedBy}
use Rattle.std.specs.BTreeSet.{BTreeSet, contains}
use Rattle.std.proofs.lemmas.Bool.{cases_lt}
use Rattle.std.proofs.lemmas.List.{take_all, take_more_same}
use Rattle.std.proofs.lemmas.Map.Lookups.{CmpEqualImpliesEq, btree_set_from_contains}
use Rattle.std.proofs.lemmas.Map.Views.{btree_set_contains_iff}
use Rattle.al_base_graph.specs.Orders.{IsLeast}
use Rattle.al_base_graph.specs.Relations.{IsFree, IsOrderBy}
use Rattle.al_base_graph.proofs.LawLemmas.{one_least}

module _ (count : ℕ) (Before : ℕ → ℕ → Type 0) where
  same_upto : (xs ys : List ℕ) → IsOrderBy count Before xs → IsOrderBy count Before ys → (n : ℕ) → n ≤ length xs → n ≤ length ys → take n xs ≡ take n ys
  same_upto xs ys x y zero l m = refl
  same_upto xs ys x y (suc n) l m =
      let before = same_upto xs ys x y n (omega arith) (omega arith) in
      let P : List ℕ → Type 0 = λ zs. IsLeast (IsFree count Before zs) (get_or xs n 0) in
      let same = one_least (IsFree count Before (take n ys)) (get_or xs n 0) (get_or ys n 0) (subst P before (x.takes_least n (omega arith))) (y.takes_least n (omega arith)) in
      let e : n + 1 ≡ suc n = omega arith in
      let Q : ℕ → Type 0 = λ k. take k xs ≡ take k ys in
      subst Q e (take_more_same xs ys n 0 (omega arith) (omega arith) before same)

  not_shorter : (xs ys : List ℕ) → IsOrderBy count Before xs → IsOrderBy count Before ys → length xs < length ys → ⊥
  not_shorter xs ys x y l =
      let same = same_upto xs ys x y (length xs) (omega arith) (omega arith) in
      let all : take (length xs) ys ≡ xs = sym same ∙ take_all (length xs) xs (omega arith) in
      let next = (y.takes_least (length xs) l).0 in
      let P : List ℕ → Type 0 = λ zs. Contains zs (get_or ys (length xs) 0) in
      next.1 (subst P (sym all) (x.all (get_or ys (length xs) 0) next.0))

  pub one_order_by : (xs ys : List ℕ) → IsOrderBy count Before xs → IsOrderBy count Before ys → xs ≡ ys
  one_order_by xs ys x y =
      elim (cases_lt (length xs) (length ys)) [
        | inl l ↦ absurd (not_shorter xs ys x y l)
        | inr m ↦ elim (cases_lt (length ys) (length xs)) [
          | inl l ↦ absurd (not_shorter ys xs y x l)
          | inr n ↦ sym (take_all (length xs) xs (omega arith)) ∙ same_upto xs ys x y (length xs) (omega arith) (omega arith) ∙ take_all (length xs) ys (omega arith)
        ]
      ]

module _ {K : Type 0} (R : K → K → Ordering) (total : IsTotalOrder R) (exact : CmpEqualImpliesEq R) where
  -- two lists in order that have the same members are one
  pub one_sorted : (xs ys : List K) → IsStrictlySortedBy R xs → IsStrictlySortedBy R ys → ((k : K) → Contains xs k ↔ Contains ys k) → xs ≡ ys
  one_sorted xs ys x y same =
      let s : BTreeSet K = record { keys = xs } in
      let t : BTreeSet K = record { keys = ys } in
      btree_set_from_contains total s t x y (λ q.
      let one = btree_set_contains_iff total exact s q in
      let two = btree_set_contains_iff total exact t q in
      both_ways (contains R s q) (contains R t q) (λ h. two.1 ((same q).0 (one.0 h))) (λ h. one.1 ((same q).1 (two.0 h)))) exact
