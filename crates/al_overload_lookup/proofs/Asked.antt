-- Which units are asked if a name is selected.
use Rattle.std.proofs.Common.{◌≡◌, List, [], ◌∷◌, Bool, true, false, cond, ◌||◌, Option, Some, None, refl, sym, ap, ◌∙◌, subst}
use Rattle.std.specs.Option.{option_map_or}
use Rattle.al_base.specs.declared.unit_key.UnitKey.{UnitKey}
use Rattle.al_query.proofs.KnownLemmas.{has_unit-left, has_unit-right}
use Rattle.al_query.specs.Known.{has_unit}
use Rattle.al_overload_lookup.specs.Lookups.{asked_units, package_in}
use Rattle.al_scope.specs.Expanded.{part_of, region_of, selected_parts, within_parts}
use Rattle.al_scope.specs.Places.{Place, is_region_of, part_units, place_units}
use Rattle.al_scope.specs.declared.region.Region.{Region}
use Rattle.al_scope.proofs.Asked.{found-among}
use Rattle.al_view.proofs.SymbolLemmas.{same_unit-one}
use Rattle.al_view.specs.Symbols.{same_unit}
use Rattle.al_view.specs.declared.symbol.Symbol.{Symbol}
use Rattle.al_view.specs.declared.view.ViewKind.{ViewKind}
use Rattle.al_view.specs.declared.view.ViewKind.TheVariants as views

pub within-among : (s : Symbol) (place : Place) (packages : List UnitKey) (u : UnitKey) → has_unit (part_units (within_parts s place)) u ≡ true → has_unit (asked_units place packages) u ≡ true
within-among s place packages u h = has_unit-left (place_units place) packages u (found-among (is_region_of s) place u h)

pub selected-among : (s : Symbol) (place : Place) (packages : List UnitKey) → has_unit packages s.unit ≡ true → (u : UnitKey) → has_unit (part_units (selected_parts s place)) u ≡ true → has_unit (asked_units place packages) u ≡ true
selected-among s place packages known u h = at (region_of s place.regions) refl h
  where
    at : (o : Option Region) → region_of s place.regions ≡ o → has_unit (part_units (option_map_or (λ (r : Region). r.parts) o (part_of s ∷ []))) u ≡ true → has_unit (asked_units place packages) u ≡ true
    at (Some r) is k = has_unit-left (place_units place) packages u (found-among (is_region_of s) place u (subst (λ (o : Option Region). has_unit (part_units (option_map_or (λ (q : Region). q.parts) o [])) u ≡ true) (sym is) k))
    at None is k = sole (same_unit u s.unit) refl k
      where
        sole : (b : Bool) → same_unit u s.unit ≡ b → (b || false) ≡ true → has_unit (asked_units place packages) u ≡ true
        sole true one k = has_unit-right (place_units place) packages u (subst (λ (v : UnitKey). has_unit packages v ≡ true) (sym (same_unit-one u s.unit one)) known)
        sole false one k = absurd (cc)

-- a package that is mentioned
pub package-known : (packages : List UnitKey) (v : ViewKind) (s : Symbol) → Some s ≡ package_in packages v → has_unit packages s.unit ≡ true
package-known packages (views.OfPackage p) s e = at (has_unit packages p.unit) refl e
  where
    at : (b : Bool) → has_unit packages p.unit ≡ b → Some s ≡ (cond b (Some p) None) → has_unit packages s.unit ≡ true
    at true is k = let same : s ≡ p = cc in ap (λ (x : Symbol). has_unit packages x.unit) same ∙ is
    at false is k = absurd (cc)
package-known packages (views.OfSubprogram x) s e = absurd (cc)
package-known packages (views.OfTask x) s e = absurd (cc)
package-known packages (views.OfProtected x) s e = absurd (cc)
package-known packages (views.OfType x) s e = absurd (cc)
package-known packages (views.OfSubtype x) s e = absurd (cc)
package-known packages (views.OfObject x) s e = absurd (cc)
package-known packages views.OfComponent s e = absurd (cc)
package-known packages (views.OfNumber x) s e = absurd (cc)
package-known packages (views.OfLiteral x) s e = absurd (cc)
