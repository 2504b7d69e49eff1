-- The entries of a tree, seen as pairs of byte lists.
use Rattle.std.proofs.Common.{◌≡◌, ℕ, cond, List, [], ◌∷◌, length, suc, Some, Vec, refl, ap, is_some}
use Rattle.std.specs.declared.rc.Rc.{Rc}
use Rattle.std.specs.Option.{option_map}
use Rattle.std.specs.List.{AllZip}
use Rattle.std.specs.Vec.{vec_len}
use Rattle.std.specs.Ordering.{nat_cmp, match_ordering, is_eq}
use Rattle.std.specs.declared.cmp.Ordering.TheVariants.{Less, Equal, Greater}
use Rattle.std.specs.Cmp.Lexicographic.{slice_cmp}
use Rattle.std.specs.Map.{lookup, remove_entry}
use Rattle.std.specs.BTreeMap.{insert_entry, is_at}
use Rattle.al_base.specs.Files.{text_of, with_file, without_file}
use Rattle.al_base.specs.Pairs.{pairs_of}

module _ {Y Z W : Type 0} where
  -- a look-up by bytes
  pub text_of-pairs_of : (es : List (Vec ℕ Y × Rc (Vec ℕ Z) W)) (q : List ℕ) → text_of (pairs_of es) q ≡ option_map (λ v. v.value.items) (lookup (is_at (λ (k : Vec ℕ Y). slice_cmp nat_cmp q k.items)) es)
  text_of-pairs_of [] q = refl
  text_of-pairs_of (e ∷ es) q =
      elim (slice_cmp nat_cmp q e.0.items) as (λ o. cond (is_eq o) (Some e.1.value.items) (text_of (pairs_of es) q) ≡ option_map (λ v. v.value.items) (cond (is_eq o) (Some e.1) (lookup (is_at (λ (k : Vec ℕ Y). slice_cmp nat_cmp q k.items)) es))) [
        | Less ↦ text_of-pairs_of es q
        | Equal ↦ refl
        | Greater ↦ text_of-pairs_of es q
      ]

  -- the same, of whether there is one
  pub is_text_of-pairs_of : (es : List (Vec ℕ Y × Rc (Vec ℕ Z) W)) (q : List ℕ) → is_some (text_of (pairs_of es) q) ≡ is_some (lookup (is_at (λ (k : Vec ℕ Y). slice_cmp nat_cmp q k.items)) es)
  is_text_of-pairs_of [] q = refl
  is_text_of-pairs_of (e ∷ es) q =
      elim (slice_cmp nat_cmp q e.0.items) as (λ o. is_some (cond (is_eq o) (Some e.1.value.items) (text_of (pairs_of es) q)) ≡ is_some (cond (is_eq o) (Some e.1) (lookup (is_at (λ (k : Vec ℕ Y). slice_cmp nat_cmp q k.items)) es))) [
        | Less ↦ is_text_of-pairs_of es q
        | Equal ↦ refl
        | Greater ↦ is_text_of-pairs_of es q
      ]

  pub length-pairs_of : (es : List (Vec ℕ Y × Rc (Vec ℕ Z) W)) → length (pairs_of es) ≡ length es
  length-pairs_of [] = refl
  length-pairs_of (e ∷ es) = ap suc (length-pairs_of es)

  pub pairs_of-insert_entry : (es : List (Vec ℕ Y × Rc (Vec ℕ Z) W)) (k : Vec ℕ Y) (v : Rc (Vec ℕ Z) W) → pairs_of (insert_entry (λ x y. slice_cmp nat_cmp x.items y.items) es k v) ≡ with_file (pairs_of es) k.items v.value.items
  pairs_of-insert_entry [] k v = refl
  pairs_of-insert_entry (e ∷ es) k v =
      elim (slice_cmp nat_cmp k.items e.0.items) as (λ o. pairs_of (match_ordering o ((k, v) ∷ e ∷ es) ((e.0, v) ∷ es) (e ∷ insert_entry (λ x y. slice_cmp nat_cmp x.items y.items) es k v)) ≡ match_ordering o ((k.items, v.value.items) ∷ pairs_of (e ∷ es)) ((e.0.items, v.value.items) ∷ pairs_of es) ((e.0.items, e.1.value.items) ∷ with_file (pairs_of es) k.items v.value.items)) [
        | Less ↦ refl
        | Equal ↦ refl
        | Greater ↦ ap (λ fs. (e.0.items, e.1.value.items) ∷ fs) (pairs_of-insert_entry es k v)
      ]

  pub pairs_of-remove_entry : (es : List (Vec ℕ Y × Rc (Vec ℕ Z) W)) (q : List ℕ) → pairs_of (remove_entry (is_at (λ (k : Vec ℕ Y). slice_cmp nat_cmp q k.items)) es) ≡ without_file (pairs_of es) q
  pairs_of-remove_entry [] q = refl
  pairs_of-remove_entry (e ∷ es) q =
      elim (slice_cmp nat_cmp q e.0.items) as (λ o. pairs_of (cond (is_eq o) es (e ∷ remove_entry (is_at (λ (k : Vec ℕ Y). slice_cmp nat_cmp q k.items)) es)) ≡ cond (is_eq o) (pairs_of es) ((e.0.items, e.1.value.items) ∷ without_file (pairs_of es) q)) [
        | Less ↦ ap (λ fs. (e.0.items, e.1.value.items) ∷ fs) (pairs_of-remove_entry es q)
        | Equal ↦ refl
        | Greater ↦ ap (λ fs. (e.0.items, e.1.value.items) ∷ fs) (pairs_of-remove_entry es q)
      ]

-- the pairs of a cloned tree
copied_items : (xs ys : List ℕ) → AllZip (λ x y. y ≡ x) xs ys → ys ≡ xs
copied_items [] [] same = refl
copied_items [] (y ∷ ys) same = absurd same
copied_items (x ∷ xs) [] same = absurd same
copied_items (x ∷ xs) (y ∷ ys) same = let rest = copied_items xs ys same.1 in let first = same.0 in cc

pub pairs_of-clone : {Y Z W : Type 0} (es fs : List (Vec ℕ Y × Rc (Vec ℕ Z) W)) → AllZip (λ p q. (AllZip (λ x y. y ≡ x) p.0.items q.0.items × (vec_len q.0 ≡ vec_len p.0)) × (q.1.value ≡ p.1.value)) es fs → pairs_of fs ≡ pairs_of es
pairs_of-clone [] [] same = refl
pairs_of-clone [] (f ∷ fs) same = absurd same
pairs_of-clone (e ∷ es) [] same = absurd same
pairs_of-clone (e ∷ es) (f ∷ fs) same =
    let rest = pairs_of-clone es fs same.1 in
    let name = copied_items e.0.items f.0.items same.0.0.0 in
    let text = ap (λ v. v.items) same.0.1 in
    cc

pub ruleset pairs = (text_of-pairs_of, is_text_of-pairs_of, pairs_of-insert_entry, pairs_of-remove_entry)
