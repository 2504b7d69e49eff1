-- Names with their views.
use Rattle.std.specs.Prelude.{ℕ, List, Vec, map}
use Rattle.al_view.specs.declared.view.ViewKind.{ViewKind}

-- each name with its views, in order
abbrev pub Declarations : Type 0
Declarations = List (List ℕ × List ViewKind)

-- the entries of a map by name, seen so
abbrev pub named_of : {Y : Type 0} → List (Vec ℕ Y × List ViewKind) → Declarations
named_of entries = map (λ e. (e.0.items, e.1)) entries
