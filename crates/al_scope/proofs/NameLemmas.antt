-- The keys of a set, seen as names.
use Rattle.std.proofs.Common.{◌≡◌, ℕ, List, [], ◌∷◌, Vec, ◌||◌, refl, ◌∙◌, ap}
use Rattle.std.specs.List.{list_any}
use Rattle.std.specs.Str.{bytes_eq}
use Rattle.std.specs.Ordering.{nat_cmp, match_ordering}
use Rattle.std.specs.declared.cmp.Ordering.TheVariants.{Less, Equal, Greater}
use Rattle.std.specs.Cmp.Lexicographic.{slice_cmp}
use Rattle.std.specs.BTreeMap.{is_at}
use Rattle.std.specs.BTreeSet.{insert_key}
use Rattle.std.proofs.lemmas.Map.Text.{is_eq-slice_cmp}
use Rattle.al_base.specs.Files.{name_cmp}
use Rattle.al_scope.specs.NameSets.{names_of}

module _ {Y : Type 0} where
  pub names_of-insert_key : (ks : List (Vec ℕ Y)) (k : Vec ℕ Y) → names_of (insert_key (λ x y. slice_cmp nat_cmp x.items y.items) ks k) ≡ insert_key name_cmp (names_of ks) k.items
  names_of-insert_key [] k = refl
  names_of-insert_key (x ∷ xs) k =
      elim (slice_cmp nat_cmp k.items x.items) as (λ o. names_of (match_ordering o (k ∷ x ∷ xs) (x ∷ xs) (x ∷ insert_key (λ x y. slice_cmp nat_cmp x.items y.items) xs k)) ≡ match_ordering o (k.items ∷ names_of (x ∷ xs)) (names_of (x ∷ xs)) (x.items ∷ insert_key name_cmp (names_of xs) k.items)) [
        | Less ↦ refl
        | Equal ↦ refl
        | Greater ↦ ap (λ l. x.items ∷ l) (names_of-insert_key xs k)
      ]

  pub among-names_of : (q : List ℕ) (ks : List (Vec ℕ Y)) → list_any (is_at (λ (k : Vec ℕ Y). slice_cmp nat_cmp q k.items)) ks ≡ list_any (bytes_eq q) (names_of ks)
  among-names_of q [] = refl
  among-names_of q (k ∷ ks) = ap (λ b. b || list_any (is_at (λ (k : Vec ℕ Y). slice_cmp nat_cmp q k.items)) ks) (is_eq-slice_cmp q k.items) ∙ ap (λ b. bytes_eq q k.items || b) (among-names_of q ks)
