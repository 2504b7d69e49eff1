-- The place of a name among names with their views.
use Rattle.std.specs.Prelude.{◌≡◌, ℕ, suc, List, [], ◌∷◌, Option, Some, None, Vec, if◌then◌else◌}
use Rattle.std.specs.Map.{lookup}
use Rattle.std.specs.Option.{option_map}
use Rattle.std.specs.Str.{bytes_eq}
use Rattle.al_view.specs.Named.{Declarations}

-- the place of a name, from 0
abbrev pub place_of : List ℕ → Declarations → Option ℕ
place_of name [] = None
place_of name (e ∷ es) = if bytes_eq name e.0 then Some 0 else option_map (λ k. suc k) (place_of name es)

-- under each name its place is found
abbrev pub ArePlaces : {Y : Type 0} → List (Vec ℕ Y × ℕ) → Declarations → Type 0
ArePlaces places declarations = (name : List ℕ) → lookup (λ k. bytes_eq name k.items) places ≡ place_of name declarations
