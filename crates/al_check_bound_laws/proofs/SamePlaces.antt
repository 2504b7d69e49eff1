-- What is visible at a place is the same under two tables that answer alike where it asks.
use Rattle.std.proofs.Common.{◌≡◌, refl, sym, subst, ◌∙◌, ap, ℕ, Bool, true, false, ◌||◌, List, [], ◌∷◌, ◌++◌, Option, Some, None, filter, map, if◌then◌else◌}
use Rattle.std.specs.List.{flat_map, list_any}
use Rattle.std.specs.Option.{option_map, option_map_or}
use Rattle.std.specs.Prelude.{find, unwrap_or}
use Rattle.std.specs.Str.{bytes_eq}
use Rattle.std.proofs.lemmas.Slice.Eq.{bytes_eq-Decides}
use Rattle.al_base.specs.declared.unit_key.UnitKey.{UnitKey}
use Rattle.al_view.specs.declared.symbol.Symbol.{Symbol}
use Rattle.al_view.specs.declared.view.ViewKind.{ViewKind}
use Rattle.al_view.specs.Interfaces as interface
use Rattle.al_view.specs.Named.{Declarations}
use Rattle.al_query.specs.declared.query.Query.TheVariants.{Named}
use Rattle.al_query.specs.Answers as answer
use Rattle.al_query.specs.Reads.{Table}
use Rattle.al_scope.specs.declared.region.UnitPart.{UnitPart}
use Rattle.al_scope.specs.declared.region.Region.{Region}
use Rattle.al_scope.specs.declared.uses.PackageUse.{PackageUse}
use Rattle.al_scope.specs.declared.hiding.RegionEntry.{RegionEntry}
use Rattle.al_scope.specs.Expanded.{part_of, region_of, selected_at, told_in, unit_region, within, within_unit}
use Rattle.al_scope.specs.PartialViews.{without_partial}
use Rattle.al_scope.specs.Places.{Place, is_region_of, is_within, uses_at, visible_part}
use Rattle.al_scope.specs.UseClauses.{Uses, opens}
use Rattle.al_scope.specs.Visible.{children_in, declared_by, direct, found_in, innermost, opened_by, potential, use_visible, visible_at}
use Rattle.al_check_bound_laws.proofs.AllLemmas.{All, Maybe, one_of}

-- equal functions of the members give equal lists
pub map-same : {X Y : Type 0} (P : X → Type 0) (f g : X → Y) → ((x : X) → P x → f x ≡ g x) → (xs : List X) → All P xs → map f xs ≡ map g xs
map-same P f g h [] a = refl
map-same P f g h (x ∷ xs) a = ap (λ y. y ∷ map f xs) (h x a.0) ∙ ap (λ l. g x ∷ l) (map-same P f g h xs a.1)

pub flat-same : {X Y : Type 0} (P : X → Type 0) (f g : X → List Y) → ((x : X) → P x → f x ≡ g x) → (xs : List X) → All P xs → flat_map f xs ≡ flat_map g xs
flat-same P f g h [] a = refl
flat-same P f g h (x ∷ xs) a = ap (λ y. y ++ flat_map f xs) (h x a.0) ∙ ap (λ l. g x ++ l) (flat-same P f g h xs a.1)

-- what holds of all names of a list holds of one that is among them
pub told-name : (F : List ℕ → Type 0) (name : List ℕ) (ns : List (List ℕ)) → All F ns → list_any (bytes_eq name) ns ≡ true → F name
told-name F name [] a h = absurd (cc)
told-name F name (n ∷ ns) a h = at (bytes_eq name n) refl h (told-name F name ns a.1)
  where
    at : (b : Bool) → bytes_eq name n ≡ b → (b || list_any (bytes_eq name) ns) ≡ true → (list_any (bytes_eq name) ns ≡ true → F name) → F name
    at true e k more = subst F (sym ((bytes_eq-Decides name n).0 e)) a.0
    at false e k more = more k

-- parts that may be asked, and names that these may be asked for
module _ (MayPart : UnitPart → Type 0) (MayName : List ℕ → Type 0) (t s : Table) (alike : (p : UnitPart) (name : List ℕ) → MayPart p → MayName name → t (Named p.unit p.part name) ≡ s (Named p.unit p.part name)) where
  -- a package of use clauses is asked only if it is mentioned
  abbrev pub UseOk : List ℕ × PackageUse → Type 0
  UseOk u = u.1.is_mentioned ≡ true → MayPart (visible_part u.0)

  -- the private types that its units tell may be asked for
  abbrev pub RegionOk : Region → Type 0
  RegionOk r = All MayPart r.parts × (All UseOk r.uses × All MayName r.private_types)

  abbrev pub PlaceOk : Place → Type 0
  PlaceOk place = All RegionOk place.regions

  pub declared-same : (m : Declarations) (name : List ℕ) → MayName name → (p : UnitPart) → MayPart p → declared_by t m name p ≡ declared_by s m name p
  declared-same m name w p k = ap (λ a. answer.views_of a ++ children_in m name p) (alike p name k w)

  pub found-same : (m : Declarations) (name : List ℕ) → MayName name → (r : Region) → RegionOk r → found_in t m name r ≡ found_in s m name r
  found-same m name w r k = ap (λ l. record { begun = list_any (bytes_eq name) r.begun; views = without_partial (l ++ interface.views_of r.declared name) }) (flat-same MayPart (declared_by t m name) (declared_by s m name) (declared-same m name w) r.parts k.0)

  pub uses-of : (rs : List Region) → All RegionOk rs → All UseOk (uses_at rs)
  uses-of [] a = tt
  uses-of (r ∷ []) a = a.0.1.0
  uses-of (r ∷ q ∷ rs) a = uses-of (q ∷ rs) a.1

  potential-same : (m : Declarations) (name : List ℕ) → MayName name → (us : Uses) → All UseOk us → potential t m name us ≡ potential s m name us
  potential-same m name w us a = flat-same UseOk (opened_by t m name) (opened_by s m name) opened us a
    where
      opened : (u : List ℕ × PackageUse) → UseOk u → opened_by t m name u ≡ opened_by s m name u
      opened u k = ap (filter (opens u.1)) (at u.1.is_mentioned k)
        where
          at : (b : Bool) → (b ≡ true → MayPart (visible_part u.0))
              → (if b then declared_by t m name (visible_part u.0) else flat_map (λ d. interface.views_of d name) u.1.operators) ≡ (if b then declared_by s m name (visible_part u.0) else flat_map (λ d. interface.views_of d name) u.1.operators)
          at true f = declared-same m name w (visible_part u.0) (f refl)
          at false f = refl

  pub visible-same : (name : List ℕ) → MayName name → (place : Place) → PlaceOk place → visible_at t name place ≡ visible_at s name place
  visible-same name w place a =
      let m = place.mentioned in
      ap (λ (fs : List RegionEntry). direct fs ++ use_visible fs (potential t m name (uses_at place.regions))) (map-same RegionOk (found_in t m name) (found_in s m name) (found-same m name w) place.regions a)
      ∙ ap (λ (vs : List ViewKind). direct (map (found_in s m name) place.regions) ++ use_visible (map (found_in s m name) place.regions) vs) (potential-same m name w (uses_at place.regions) (uses-of place.regions a))

  pub innermost-same : (m : Declarations) (name : List ℕ) → MayName name → (rs : List Region) → All RegionOk rs → innermost t m name rs ≡ innermost s m name rs
  innermost-same m name w [] a = refl
  innermost-same m name w (r ∷ []) a = ap (λ f. f.views) (found-same m name w r a.0)
  innermost-same m name w (r ∷ q ∷ rs) a = innermost-same m name w (q ∷ rs) a.1

  found-one : (p : Region → Bool) (rs : List Region) → All RegionOk rs → Maybe RegionOk (find p rs)
  found-one p [] a = tt
  found-one p (r ∷ rs) a = one_of (Maybe RegionOk) (p r) (Some r) (find p rs) a.0 (found-one p rs a.1)

  pub within-same : (m : Declarations) (name : List ℕ) → MayName name → (x : Symbol) (rs : List Region) → All RegionOk rs → within t m name x rs ≡ within s m name x rs
  within-same m name w x rs a = at (region_of x rs) (found-one (is_region_of x) rs a)
    where
      at : (o : Option Region) → Maybe RegionOk o → option_map (λ r. (found_in t m name r).views) o ≡ option_map (λ r. (found_in s m name r).views) o
      at None k = refl
      at (Some r) k = ap (λ f. Some f.views) (found-same m name w r k)

  pub selected-same : (name : List ℕ) → MayName name → (x : Symbol) (place : Place) → PlaceOk place → MayPart (part_of x) → selected_at t name x place ≡ selected_at s name x place
  selected-same name w x place a k =
      ap (λ o. unwrap_or o (declared_by t place.mentioned name (part_of x))) (within-same place.mentioned name w x place.regions a)
      ∙ ap (λ d. unwrap_or (within s place.mentioned name x place.regions) d) (declared-same place.mentioned name w (part_of x) k)

  told-in-same : (m : Declarations) (name : List ℕ) (r : Region) → RegionOk r → told_in t m name r ≡ told_in s m name r
  told-in-same m name r k = by r.parts k
    where
      by : (ps : List UnitPart) → RegionOk (record r { parts = ps }) → told_in t m name (record r { parts = ps }) ≡ told_in s m name (record r { parts = ps })
      by [] k = refl
      by (p ∷ ps) k = at (list_any (bytes_eq name) r.private_types) (λ h. found-same m name (told-name MayName name r.private_types k.1.1 h) (record r { parts = p ∷ ps }) k)
        where
          at : (b : Bool) → (b ≡ true → found_in t m name (record r { parts = p ∷ ps }) ≡ found_in s m name (record r { parts = p ∷ ps }))
              → (if b then (found_in t m name (record r { parts = p ∷ ps })).views else []) ≡ (if b then (found_in s m name (record r { parts = p ∷ ps })).views else [])
          at true e = ap (λ f. f.views) (e refl)
          at false e = refl

  -- full views of private types are asked for by names that are told
  pub within-unit-same : (name : List ℕ) (unit : UnitKey) (place : Place) → PlaceOk place → within_unit t name unit place ≡ within_unit s name unit place
  within-unit-same name unit place a = at (unit_region unit place.regions) (found-one (is_within unit) place.regions a)
    where
      at : (o : Option Region) → Maybe RegionOk o → option_map_or (told_in t place.mentioned name) o [] ≡ option_map_or (told_in s place.mentioned name) o []
      at None k = refl
      at (Some r) k = told-in-same place.mentioned name r k
