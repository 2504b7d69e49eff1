-- Which declarations a literal is a homograph of.
use Rattle.std.specs.Prelude.{◌≡◌, ℕ, List, [], false, true, not, Some}
use Rattle.std.specs.List.{All, list_any}
use Rattle.al_view.specs.declared.symbol.Symbol.{Symbol}
use Rattle.al_view.specs.declared.types.TypeView.{TypeView}
use Rattle.al_view.specs.declared.view.ViewKind.{ViewKind}
use Rattle.al_view.specs.Homographs.{homographs, may_be_overloaded}
use Rattle.al_view_predefined.specs.Standard.{literal}

-- what may be overloaded is of other types than a literal of this one
abbrev pub IsOfOthers : Symbol → List TypeView → ℕ → ViewKind → Type 0
IsOfOthers of types position v = may_be_overloaded v ≡ true → homographs (literal of types position) v ≡ false

abbrev pub LiteralsAreHomographsOfFixed : Type 0
LiteralsAreHomographsOfFixed = (of : Symbol) (types : List TypeView) (position : ℕ) (views : List ViewKind) → All (IsOfOthers of types position) views → list_any (homographs (literal of types position)) views ≡ list_any (λ (v : ViewKind). not (may_be_overloaded v)) views
