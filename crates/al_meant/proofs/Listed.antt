-- What lists by name have after more was put into them.
use Rattle.std.proofs.Common.{◌≡◌, ℕ, ◌<◌, List, [], ◌∷◌, ◌++◌, Bool, true, false, cond, length, Option, Some, None, refl, sym, ap, ◌∙◌, arith, append_assoc, append-nil}
use Rattle.std.proofs.lemmas.List.{length-append}
use Rattle.std.proofs.lemmas.Slice.Eq.{bytes_eq-Decides}
use Rattle.std.specs.List.{flat_map}
use Rattle.std.specs.Map.{lookup}
use Rattle.std.specs.Prelude.{unwrap_or}
use Rattle.std.specs.Str.{bytes_eq}
use Rattle.al_base.specs.declared.unit_key.UnitKey.{UnitKey}
use Rattle.al_overload_lookup.proofs.Fronts.{views-other}
use Rattle.al_overload_lookup.specs.Keys.{dotted}
use Rattle.al_overload_lookup.specs.declared.denoted.Names.{Names}
use Rattle.al_overload_lookup.specs.Lookups.{selected_in, with_each, with_selected, with_views}
use Rattle.al_query.specs.Reads.{Table}
use Rattle.al_scope.specs.Places.{Place}
use Rattle.al_view.specs.Interfaces.{views_of, with_view}
use Rattle.al_view.specs.Named.{Declarations}
use Rattle.al_view.specs.declared.view.ViewKind.{ViewKind}

view-same : (d : Declarations) (name : List ℕ) (v : ViewKind) → views_of (with_view d name v) name ≡ views_of d name ++ v ∷ []
view-same [] name v = ap (λ b. unwrap_or (cond b (Some (v ∷ [])) None) []) ((bytes_eq-Decides name name).1 refl)
view-same (e ∷ es) name v = at (bytes_eq name e.0) refl (view-same es name v)
  where
    at : (b : Bool) → bytes_eq name e.0 ≡ b → views_of (with_view es name v) name ≡ views_of es name ++ v ∷ [] → views_of (cond b ((e.0, e.1 ++ v ∷ []) ∷ es) (e ∷ with_view es name v)) name ≡ unwrap_or (cond b (Some e.1) (lookup (bytes_eq name) es)) [] ++ v ∷ []
    at true i more = ap (λ b. unwrap_or (cond b (Some (e.1 ++ v ∷ [])) (lookup (bytes_eq name) es)) []) i
    at false i more = ap (λ b. unwrap_or (cond b (Some e.1) (lookup (bytes_eq name) (with_view es name v))) []) i ∙ more

pub views-same : (d : Declarations) (name : List ℕ) (vs : List ViewKind) → views_of (with_views d name vs) name ≡ views_of d name ++ vs
views-same d name [] = sym (append-nil (views_of d name))
views-same d name (v ∷ vs) = views-same (with_view d name v) name vs ∙ ap (λ (xs : List ViewKind). xs ++ vs) (view-same d name v) ∙ append_assoc (views_of d name) (v ∷ []) vs

-- a name is none that is longer
pub apart : (other name : List ℕ) → length name < length other → bytes_eq other name ≡ false
apart other name h = at (bytes_eq other name) refl
  where
    at : (b : Bool) → bytes_eq other name ≡ b → b ≡ false
    at true i = let same : other ≡ name = (bytes_eq-Decides other name).0 i in absurd (omega (arith, ap length same))
    at false i = refl

pub longer : (key name : List ℕ) → length key < length (dotted key name)
longer key name = omega (arith, length-append key (46 ∷ name))

-- ---- what was selected in each of several declarations

-- what a selector selects in a declaration, if it selects there
abbrev pub picked : Table → Place → List UnitKey → List ℕ → ViewKind → List ViewKind
picked t place packages name v = unwrap_or (selected_in t place packages name v) []

selected-same : (key : List ℕ) (v : ViewKind) (names : Names) (o : Option (List ViewKind)) → views_of (with_selected key v names o).visible key ≡ views_of names.visible key ++ unwrap_or o []
selected-same key v names (Some found) = views-same names.visible key found
selected-same key v names None = sym (append-nil (views_of names.visible key))

pub each-same : (t : Table) (place : Place) (packages : List UnitKey) (key name : List ℕ) (names : Names) (vs : List ViewKind) → views_of (with_each t place packages key name names vs).visible key ≡ views_of names.visible key ++ flat_map (picked t place packages name) vs
each-same t place packages key name names [] = sym (append-nil (views_of names.visible key))
each-same t place packages key name names (v ∷ vs) =
    each-same t place packages key name (with_selected key v names (selected_in t place packages name v)) vs
    ∙ ap (λ (xs : List ViewKind). xs ++ flat_map (picked t place packages name) vs) (selected-same key v names (selected_in t place packages name v))
    ∙ append_assoc (views_of names.visible key) (picked t place packages name v) (flat_map (picked t place packages name) vs)

prefix-other : (key other : List ℕ) (v : ViewKind) (names : Names) (o : Option (List ViewKind)) → bytes_eq other key ≡ false → views_of (with_selected key v names o).prefixes other ≡ views_of names.prefixes other
prefix-other key other v names (Some found) h = views-other names.prefixes key other (v ∷ []) h
prefix-other key other v names None h = refl

pub prefixes-other : (t : Table) (place : Place) (packages : List UnitKey) (key name other : List ℕ) (names : Names) (vs : List ViewKind) → bytes_eq other key ≡ false → views_of (with_each t place packages key name names vs).prefixes other ≡ views_of names.prefixes other
prefixes-other t place packages key name other names [] h = refl
prefixes-other t place packages key name other names (v ∷ vs) h =
    prefixes-other t place packages key name other (with_selected key v names (selected_in t place packages name v)) vs h
    ∙ prefix-other key other v names (selected_in t place packages name v) h
