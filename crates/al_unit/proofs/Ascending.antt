-- What is put in by ascending names stands in that order.
use Rattle.std.proofs.Common.{◌≡◌, ℕ, zero, suc, ◌<◌, List, [], ◌∷◌, length, get_or, map, take, ap, ◌∙◌, arith}
use Rattle.std.specs.Ordering.{ordering_reverse}
use Rattle.std.specs.declared.cmp.Ordering.TheVariants.{Less, Greater}
use Rattle.std.specs.Cmp.Lexicographic.{nat_list_cmp_total}
use Rattle.std.specs.List.{AllByRecursion}
use Rattle.std.specs.List.Sorted.{IsStrictlySortedBy}
use Rattle.std.specs.Map.{keys_of}
use Rattle.std.specs.BTreeMap.{insert_entry}
use Rattle.al_base.specs.Files.{name_cmp}

module _ {A X Y : Type 0} (v : A → List ℕ × X) (g : X → Y) where
  -- the entries of these items
  abbrev pub entries : List A → List (List ℕ × Y)
  entries xs = map (λ e. (e.0, g e.1)) (map v xs)

  -- what holds of each name holds of the one of an item
  below_item : (xs : List A) (k : List ℕ) (i : ℕ) (a : A) → AllByRecursion (λ n. name_cmp k n ≡ Less) (keys_of (map v xs)) → i < length xs → a ≡ get_or xs i a → name_cmp k (v a).0 ≡ Less
  below_item [] k i a below within is = absurd (omega (arith, within))
  below_item (x ∷ xs) k zero a below within is = ap (λ a. name_cmp k (v a).0) is ∙ below.0
  below_item (x ∷ xs) k (suc i) a below within is = below_item xs k i a below.1 (omega (arith, within)) is

  pub insert_next : (xs : List A) (i : ℕ) (a : A) → IsStrictlySortedBy name_cmp (keys_of (map v xs)) → i < length xs → a ≡ get_or xs i a → insert_entry name_cmp (entries (take i xs)) (v a).0 (g (v a).1) ≡ entries (take (suc i) xs)
  unfolding IsStrictlySortedBy
  insert_next [] i a sorted within is = absurd (omega (arith, within))
  insert_next (x ∷ xs) zero a sorted within is = ap (λ a. ((v a).0, g (v a).1) ∷ []) is
  insert_next (x ∷ xs) (suc i) a sorted within is =
      let above : name_cmp (v a).0 (v x).0 ≡ Greater = nat_list_cmp_total.antisymm (v a).0 (v x).0 ∙ ap ordering_reverse (below_item xs (v x).0 i a sorted.0 (omega (arith, within)) is) in
      rw above (ap (λ es. ((v x).0, g (v x).1) ∷ es) (insert_next xs i a sorted.1 (omega (arith, within)) is))
