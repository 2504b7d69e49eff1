-- The symbols that are looked up when an image is made.
use Rattle.std.specs.Prelude.{◌≡◌, ◌⊎◌, ℕ, List, Some}
use Rattle.std.specs.List.{Contains}
use Rattle.std.specs.Map.{lookup}
use Rattle.al_view.specs.declared.link.LinkSymbol.{LinkSymbol}
use Rattle.al_link.specs.Closed.{AreClosed, used_in}
use Rattle.al_link.specs.Kept.{all_located}
use Rattle.al_link.specs.Linking.{places_of}
use Rattle.al_link.specs.Symbols.{same_link_symbol}
use Rattle.al_link.specs.Units.{UnitObject}

-- these symbols are looked up when an image is made
abbrev pub IsLookedUp : LinkSymbol → List UnitObject → LinkSymbol → Type 0
IsLookedUp main us x = (x ≡ main) ⊎ Contains (used_in us) x

-- if the units are closed, each of these has a place
abbrev pub ClosedImagesHaveNoDefault : Type 0
ClosedImagesHaveNoDefault =
    (main : LinkSymbol) (us : List UnitObject) → AreClosed main us → (x : LinkSymbol) → IsLookedUp main us x
    → (place : ℕ) × (lookup (same_link_symbol x) (places_of (all_located us)) ≡ Some place)
