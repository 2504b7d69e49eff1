-- The entries of a map by package, seen as use clauses.
use Rattle.std.proofs.Common.{◌≡◌, ℕ, cond, List, [], ◌∷◌, length, Some, Vec, refl, ap}
use Rattle.std.specs.declared.rc.Rc.{Rc}
use Rattle.std.specs.Option.{option_map}
use Rattle.std.specs.List.{AllByRecursion, AllZip}
use Rattle.std.specs.List.Sorted.{IsStrictlySortedBy}
use Rattle.std.specs.Vec.{vec_len}
use Rattle.std.specs.Ordering.{nat_cmp, match_ordering, is_eq}
use Rattle.std.specs.declared.cmp.Ordering.TheVariants.{Less, Equal, Greater}
use Rattle.std.specs.Cmp.Lexicographic.{slice_cmp}
use Rattle.std.specs.Map.{keys_of, lookup}
use Rattle.std.specs.BTreeMap.{insert_entry, is_at}
use Rattle.al_base.specs.Files.{name_cmp}
use Rattle.al_scope.specs.declared.uses.PackageUse.{PackageUse}
use Rattle.al_scope.specs.UseClauses.{EachOnce, uses_of}

module _ {Y W : Type 0} where
  -- a look-up by bytes
  pub lookup_uses_of : (es : List (Vec ℕ Y × Rc PackageUse W)) (q : List ℕ) → lookup (is_at (name_cmp q)) (uses_of es) ≡ option_map (λ (v : Rc PackageUse W). v.value) (lookup (is_at (λ (k : Vec ℕ Y). slice_cmp nat_cmp q k.items)) es)
  lookup_uses_of [] q = refl
  lookup_uses_of (e ∷ es) q =
      elim (slice_cmp nat_cmp q e.0.items) as (λ o. cond (is_eq o) (Some e.1.value) (lookup (is_at (name_cmp q)) (uses_of es)) ≡ option_map (λ (v : Rc PackageUse W). v.value) (cond (is_eq o) (Some e.1) (lookup (is_at (λ (k : Vec ℕ Y). slice_cmp nat_cmp q k.items)) es))) [
        | Less ↦ lookup_uses_of es q
        | Equal ↦ refl
        | Greater ↦ lookup_uses_of es q
      ]

  pub uses_of-insert_entry : (es : List (Vec ℕ Y × Rc PackageUse W)) (k : Vec ℕ Y) (v : Rc PackageUse W) → uses_of (insert_entry (λ x y. slice_cmp nat_cmp x.items y.items) es k v) ≡ insert_entry name_cmp (uses_of es) k.items v.value
  uses_of-insert_entry [] k v = refl
  uses_of-insert_entry (e ∷ es) k v =
      elim (slice_cmp nat_cmp k.items e.0.items) as (λ o. uses_of (match_ordering o ((k, v) ∷ e ∷ es) ((e.0, v) ∷ es) (e ∷ insert_entry (λ x y. slice_cmp nat_cmp x.items y.items) es k v)) ≡ match_ordering o ((k.items, v.value) ∷ uses_of (e ∷ es)) ((e.0.items, v.value) ∷ uses_of es) ((e.0.items, e.1.value) ∷ insert_entry name_cmp (uses_of es) k.items v.value)) [
        | Less ↦ refl
        | Equal ↦ refl
        | Greater ↦ ap (λ us. (e.0.items, e.1.value) ∷ us) (uses_of-insert_entry es k v)
      ]

-- of a map without entries there are none, and of no other
pub uses_none : {Y W : Type 0} (es : List (Vec ℕ Y × Rc PackageUse W)) → length es ≡ 0 → uses_of es ≡ []
uses_none [] none = refl
uses_none (e ∷ es) none = absurd (cc)

pub none_uses : {Y W : Type 0} (es : List (Vec ℕ Y × Rc PackageUse W)) → uses_of es ≡ [] → length es ≡ 0
none_uses [] none = refl
none_uses (e ∷ es) none = absurd (cc)

copied_items : (xs ys : List ℕ) → AllZip (λ x y. y ≡ x) xs ys → ys ≡ xs
copied_items [] [] same = refl
copied_items [] (y ∷ ys) same = absurd same
copied_items (x ∷ xs) [] same = absurd same
copied_items (x ∷ xs) (y ∷ ys) same = let rest = copied_items xs ys same.1 in let first = same.0 in cc

pub uses_of-clone : {Y W : Type 0} (es fs : List (Vec ℕ Y × Rc PackageUse W)) → AllZip (λ p q. (AllZip (λ x y. y ≡ x) p.0.items q.0.items × (vec_len q.0 ≡ vec_len p.0)) × (q.1.value ≡ p.1.value)) es fs → uses_of fs ≡ uses_of es
uses_of-clone [] [] same = refl
uses_of-clone [] (f ∷ fs) same = absurd same
uses_of-clone (e ∷ es) [] same = absurd same
uses_of-clone (e ∷ es) (f ∷ fs) same =
    let rest = uses_of-clone es fs same.1 in
    let name = copied_items e.0.items f.0.items same.0.0.0 in
    let used = same.0.1 in
    cc

-- the names ascend
pub sorted_uses : {Y W : Type 0} (es : List (Vec ℕ Y × Rc PackageUse W)) → IsStrictlySortedBy (λ x y. slice_cmp nat_cmp x.items y.items) (keys_of es) → EachOnce (uses_of es)
unfolding IsStrictlySortedBy
sorted_uses {Y = Y} {W = W} [] h = tt
sorted_uses {Y = Y} {W = W} (e ∷ es) h = (all e es h.0, sorted_uses es h.1)
  where
    all : (e : Vec ℕ Y × Rc PackageUse W) (es : List (Vec ℕ Y × Rc PackageUse W)) → AllByRecursion (λ y. slice_cmp nat_cmp e.0.items y.items ≡ Less) (keys_of es) → AllByRecursion (λ n. name_cmp e.0.items n ≡ Less) (keys_of (uses_of es))
    all e [] h = tt
    all e (f ∷ es) h = (h.0, all e es h.1)
