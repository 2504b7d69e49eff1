-- What a visible part shows of private types whose full views its place sees, as that of a private child does of its ancestors' (ARM 7.3(5), 10.1.1(12)):
-- their partial views alone.
use Rattle.std.specs.Prelude.{ℕ, Bool, ◌&&◌, List, [], ◌∷◌, fold, if◌then◌else◌}
use Rattle.std.specs.List.{flat_map, list_any}
use Rattle.std.specs.Str.{bytes_eq}
use Rattle.al_view_predefined.specs.Standard.{private_type}
use Rattle.al_view.specs.Interfaces.{with_view}
use Rattle.al_view.specs.Named.{Declarations}
use Rattle.al_view.specs.Symbols.{same_unit}
use Rattle.al_view.specs.Types.{definition_bounds, layout_words}
use Rattle.al_view.specs.declared.symbol.Symbol.{Symbol}
use Rattle.al_view.specs.declared.types.TypeView.{TypeView}
use Rattle.al_view.specs.declared.view.ViewKind.{ViewKind}
use Rattle.al_scope.specs.Recasts.{recast, view_types}
use Rattle.al_scope.specs.declared.seen_hiding.PrivateName.{PrivateName}
use Rattle.al_scope.specs.declared.recast.Recast.{Recast}

-- whether it is the private type of that name: a unit declares no other type under it
abbrev pub is_named : Symbol → PrivateName → Bool
is_named s p = same_unit p.unit s.unit && bytes_eq p.name s.name

abbrev pub is_hidden : List PrivateName → Symbol → Bool
is_hidden names s = list_any (is_named s) names

-- only the number of words of its values is shown
abbrev pub by_partial : TypeView → Recast
by_partial t = record { bounds = definition_bounds t.definition; by = record { types = private_type t.symbol (layout_words t.layout); literals = [] } }

abbrev pub partial_if_hidden : List PrivateName → TypeView → List Recast
partial_if_hidden names t = if is_hidden names t.symbol then by_partial t ∷ [] else []

unfoldable pub hidden : List PrivateName → ViewKind → ViewKind
hidden names v = recast (flat_map (partial_if_hidden names) (view_types v)) v

-- ---- all that is declared, name by name

abbrev pub with_hidden : List PrivateName → Declarations → List ℕ × List ViewKind → Declarations
with_hidden names answered named = fold (λ (d : Declarations) (v : ViewKind). with_view d named.0 (hidden names v)) answered named.1

abbrev pub all_hidden : List PrivateName → Declarations → Declarations
all_hidden names declared = fold (with_hidden names) [] declared

-- if no type is hidden all stays as it is
abbrev pub hidden_in : List PrivateName → Declarations → Declarations
hidden_in [] declared = declared
hidden_in (n ∷ ns) declared = all_hidden (n ∷ ns) declared
