-- What is round a region is unchanged.
use Rattle.std.proofs.Common.{◌≡◌, List, [], ◌∷◌, ◌++◌, refl, ap, ◌∙◌}
use Rattle.al_decl_judged.specs.declared.names.DefiningName.{DefiningName}
use Rattle.al_decl.specs.Declaring.{begun, begun_one, in_innermost}
use Rattle.al_decl.specs.Inner.{made_visible, one_visible}
use Rattle.al_scope.specs.Places.{Place, in_last}
use Rattle.al_scope.specs.declared.region.Region.{Region}

-- a place in a region of these outer ones
abbrev pub IsInner : List Region → Place → Place → Type 0
IsInner outer start place = (place.mentioned ≡ start.mentioned) × ((r : Region) × (place.regions ≡ outer ++ r ∷ []))

in_last-inner : (change : Region → Region) (outer : List Region) (r : Region) → in_last change (outer ++ r ∷ []) ≡ outer ++ change r ∷ []
in_last-inner change [] r = refl
in_last-inner change (q ∷ []) r = refl
in_last-inner change (q ∷ s ∷ rest) r = ap (λ (l : List Region). q ∷ l) (in_last-inner change (s ∷ rest) r)

innermost-inner : (change : Region → Region) (outer : List Region) (start place : Place) → IsInner outer start place → IsInner outer start (in_innermost change place)
innermost-inner change outer start place h = (h.0, (change h.1.0, ap (in_last change) h.1.1 ∙ in_last-inner change outer h.1.0))

pub begun-inner : (outer : List Region) (start place : Place) (names : List DefiningName) → IsInner outer start place → IsInner outer start (begun place names)
begun-inner outer start place [] h = h
begun-inner outer start place (n ∷ ns) h = begun-inner outer start (begun_one place n) ns (innermost-inner _ outer start place h)

pub visible-inner : (outer : List Region) (start place : Place) (names : List DefiningName) → IsInner outer start place → IsInner outer start (made_visible place names)
visible-inner outer start place [] h = h
visible-inner outer start place (n ∷ ns) h = visible-inner outer start (one_visible place n) ns (innermost-inner _ outer start place h)
