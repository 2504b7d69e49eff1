-- The entries of a tree, seen as a library.
use Rattle.std.proofs.Common.{◌≡◌, ℕ, cond, List, [], ◌∷◌, Some, Vec, refl, ap}
use Rattle.std.specs.Option.{option_map}
use Rattle.std.specs.declared.rc.Rc.{Rc}
use Rattle.std.specs.Ordering.{nat_cmp, match_ordering, is_eq}
use Rattle.std.specs.declared.cmp.Ordering.TheVariants.{Less, Equal, Greater}
use Rattle.std.specs.Cmp.Lexicographic.{slice_cmp}
use Rattle.std.specs.Map.{lookup}
use Rattle.std.specs.BTreeMap.{insert_entry, is_at}
use Rattle.al_base.specs.Files.{name_cmp}
use Rattle.al_unit_graph.specs.Library.{source_at}
use Rattle.al_unit_graph.specs.declared.source.Source.{Source}
use Rattle.al_unit_graph.specs.Views.{source_model, library_of}

module _ {Y W : Type 0} where
  pub source_at-library_of : (es : List (Vec ℕ Y × Rc Source W)) (q : List ℕ) → source_at (library_of es) q ≡ option_map (λ s. source_model s.value) (lookup (is_at (λ (k : Vec ℕ Y). slice_cmp nat_cmp q k.items)) es)
  source_at-library_of [] q = refl
  source_at-library_of (e ∷ es) q =
      elim (slice_cmp nat_cmp q e.0.items) as (λ o. cond (is_eq o) (Some (source_model e.1.value)) (source_at (library_of es) q) ≡ option_map (λ s. source_model s.value) (cond (is_eq o) (Some e.1) (lookup (is_at (λ (k : Vec ℕ Y). slice_cmp nat_cmp q k.items)) es))) [
        | Less ↦ source_at-library_of es q
        | Equal ↦ refl
        | Greater ↦ source_at-library_of es q
      ]

  pub library_of-insert_entry : (es : List (Vec ℕ Y × Rc Source W)) (k : Vec ℕ Y) (v : Rc Source W) → library_of (insert_entry (λ x y. slice_cmp nat_cmp x.items y.items) es k v) ≡ insert_entry name_cmp (library_of es) k.items (source_model v.value)
  library_of-insert_entry [] k v = refl
  library_of-insert_entry (e ∷ es) k v =
      elim (slice_cmp nat_cmp k.items e.0.items) as (λ o. library_of (match_ordering o ((k, v) ∷ e ∷ es) ((e.0, v) ∷ es) (e ∷ insert_entry (λ x y. slice_cmp nat_cmp x.items y.items) es k v)) ≡ match_ordering o ((k.items, source_model v.value) ∷ library_of (e ∷ es)) ((e.0.items, source_model v.value) ∷ library_of es) ((e.0.items, source_model e.1.value) ∷ insert_entry name_cmp (library_of es) k.items (source_model v.value))) [
        | Less ↦ refl
        | Equal ↦ refl
        | Greater ↦ ap (λ fs. (e.0.items, source_model e.1.value) ∷ fs) (library_of-insert_entry es k v)
      ]
