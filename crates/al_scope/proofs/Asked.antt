-- Which units are asked if what a region has is looked for.
use Rattle.std.proofs.Common.{◌≡◌, List, [], ◌∷◌, ◌++◌, Bool, true, false, cond, Some, refl, sym, ap, subst}
use Rattle.std.specs.List.{find}
use Rattle.std.specs.Option.{option_map_or}
use Rattle.al_base.specs.declared.unit_key.UnitKey.{UnitKey}
use Rattle.al_query.proofs.KnownLemmas.{has_unit-left, has_unit-right}
use Rattle.al_query.specs.Known.{has_unit}
use Rattle.al_scope.specs.Places.{Place, part_units, place_units, region_parts, use_parts, uses_at}
use Rattle.al_scope.specs.declared.region.Region.{Region}
use Rattle.al_scope.specs.declared.region.UnitPart.{UnitPart}

units-join : (ps qs : List UnitPart) → part_units (ps ++ qs) ≡ part_units ps ++ part_units qs
units-join [] qs = refl
units-join (p ∷ ps) qs = ap (λ (us : List UnitKey). p.unit ∷ us) (units-join ps qs)

-- the parts of a region that is found are among those of all
among-found : (p : Region → Bool) (rs : List Region) (u : UnitKey) → has_unit (part_units (option_map_or (λ (r : Region). r.parts) (find p rs) [])) u ≡ true → has_unit (part_units (region_parts rs)) u ≡ true
among-found p [] u h = h
among-found p (r ∷ rs) u h = at (p r) h (among-found p rs u)
  where
    at : (b : Bool) → has_unit (part_units (option_map_or (λ (q : Region). q.parts) (cond b (Some r) (find p rs)) [])) u ≡ true → (has_unit (part_units (option_map_or (λ (q : Region). q.parts) (find p rs) [])) u ≡ true → has_unit (part_units (region_parts rs)) u ≡ true) → has_unit (part_units (r.parts ++ region_parts rs)) u ≡ true
    at true k more = subst (λ (us : List UnitKey). has_unit us u ≡ true) (sym (units-join r.parts (region_parts rs))) (has_unit-left (part_units r.parts) (part_units (region_parts rs)) u k)
    at false k more = subst (λ (us : List UnitKey). has_unit us u ≡ true) (sym (units-join r.parts (region_parts rs))) (has_unit-right (part_units r.parts) (part_units (region_parts rs)) u (more k))

-- and so among those of the place
pub found-among : (p : Region → Bool) (place : Place) (u : UnitKey) → has_unit (part_units (option_map_or (λ (r : Region). r.parts) (find p place.regions) [])) u ≡ true → has_unit (place_units place) u ≡ true
found-among p place u h =
    subst (λ (us : List UnitKey). has_unit us u ≡ true) (sym (units-join (region_parts place.regions) (use_parts (uses_at place.regions))))
    (has_unit-left (part_units (region_parts place.regions)) (part_units (use_parts (uses_at place.regions))) u (among-found p place.regions u h))
