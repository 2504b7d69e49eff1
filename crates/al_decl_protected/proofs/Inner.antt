-- What is round a region is unchanged.
use Rattle.std.proofs.Common.{◌≡◌, List, [], ◌∷◌, ◌++◌, refl, ap, ◌∙◌, subst, sym}
use Rattle.al_decl_judged.specs.declared.names.DefiningName.{DefiningName}
use Rattle.al_decl.proofs.Innermost.{begun-inner, visible-inner}
use Rattle.al_decl.specs.Declaring.{begun, in_innermost}
use Rattle.al_decl.specs.Inner.{made_visible}
use Rattle.al_scope.specs.Places.{Place, in_last}
use Rattle.al_scope.specs.declared.region.Region.{Region}
use Rattle.al_decl_protected.specs.Checks.{IsInner, StaysInner}

pub stays_there : (place : Place) → StaysInner place place
stays_there place outer start h = h

-- if the place is the same
pub stays_same : (before after : Place) → after ≡ before → StaysInner before after
stays_same before after same outer start h = subst (λ (p : Place). IsInner outer start p) (sym same) h

pub stays_then : (a b c : Place) → StaysInner a b → StaysInner b c → StaysInner a c
stays_then a b c first second outer start h = second outer start (first outer start h)

in_last-inner : (change : Region → Region) (outer : List Region) (r : Region) → in_last change (outer ++ r ∷ []) ≡ outer ++ change r ∷ []
in_last-inner change [] r = refl
in_last-inner change (q ∷ []) r = refl
in_last-inner change (q ∷ s ∷ rest) r = ap (λ (l : List Region). q ∷ l) (in_last-inner change (s ∷ rest) r)

pub stays_innermost : (change : Region → Region) (place : Place) → StaysInner place (in_innermost change place)
stays_innermost change place outer start h = (h.0, (change h.1.0, ap (in_last change) h.1.1 ∙ in_last-inner change outer h.1.0))

pub stays_visible : (place : Place) (names : List DefiningName) → StaysInner place (made_visible (begun place names) names)
stays_visible place names outer start h = visible-inner outer start (begun place names) names (begun-inner outer start place names h)
