-- The files that a file meets are those that are reached from it by what units want.
use Rattle.std.proofs.Common.{◌≡◌, ℕ, true, ◌↔◌, List, [], ◌∷◌, Option, Some, None, subst, sym, refl}
use Rattle.std.specs.Option.{option_map_or}
use Rattle.std.specs.Str.{bytes_eq}
use Rattle.std.specs.List.{Contains}
use Rattle.std.proofs.lemmas.Slice.Eq.{bytes_eq-Decides}
use Rattle.al_unit_graph.specs.Headers.{Header, Library}
use Rattle.al_unit_graph.specs.Library.{unit_in}
use Rattle.al_base_graph.specs.Closing.{Reached}
use Rattle.al_base_graph.specs.Closing.Reached.{start, further}
use Rattle.al_unit_graph.specs.Traces.{wanted_files, wants, Meets}
use Rattle.al_unit_graph.specs.Traces.Meets.{itself, wanted}
use Rattle.al_base_graph.proofs.Members.{nowhere, the_one, one}

pub same_name : (a b : List ℕ) → bytes_eq a b ≡ true → a ≡ b
same_name a b is = (bytes_eq-Decides a b).0 is

module _ (lib : Library) (first : List ℕ) where
  unit_of : (file next : List ℕ) (o : Option Header) → unit_in lib file ≡ o → Contains (option_map_or (wanted_files lib) o []) next → (h : Header) × (unit_in lib file ≡ Some h) × Contains (wanted_files lib h) next
  unit_of file next None is c = absurd (nowhere next c)
  unit_of file next (Some h) is c = (h, is, c)

  into_meets : (y : List ℕ) → Reached (wants lib) (first ∷ []) y → Meets lib first y
  into_meets y (start c) = subst (λ v. Meets lib first v) (the_one first y c) itself
  into_meets y (further {x = x} r c) = let u = unit_of x y (unit_in lib x) refl c in wanted (into_meets x r) u.1 u.2

  from_meets : (y : List ℕ) → Meets lib first y → Reached (wants lib) (first ∷ []) y
  from_meets _ itself = start (one first)
  from_meets y (wanted {file = file} m is c) = further (from_meets file m) (subst (λ o. Contains (option_map_or (wanted_files lib) o []) y) (sym is) c)

  pub meets_reached : (y : List ℕ) → Reached (wants lib) (first ∷ []) y ↔ Meets lib first y
  meets_reached y = (into_meets y, from_meets y)
