-- What a part of a unit declares.
use Rattle.std.specs.Prelude.{ℕ, List, [], ◌∷◌, ◌++◌, if◌then◌else◌, unwrap_or}
use Rattle.std.specs.Map.{lookup}
use Rattle.std.specs.Str.{bytes_eq}
use Rattle.al_view.specs.declared.view.ViewKind.{ViewKind}
use Rattle.al_view.specs.Named.{Declarations}

-- the views of a name
abbrev pub views_of : Declarations → List ℕ → List ViewKind
views_of declarations name = unwrap_or (lookup (bytes_eq name) declarations) []

-- one more view of a name: after its views, or with a new name, which goes last
abbrev pub with_view : Declarations → List ℕ → ViewKind → Declarations
with_view [] name view = (name, view ∷ []) ∷ []
with_view (e ∷ es) name view = if bytes_eq name e.0 then (e.0, e.1 ++ view ∷ []) ∷ es else e ∷ with_view es name view
