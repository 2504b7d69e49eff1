-- What declarations are at a place that sees full views of private types: there the full view of a type takes the place of its partial one,
-- through all that is of it (ARM 7.3(5), 8.2(5)). A view holds its types as the place sees them where it was declared.
use Rattle.std.specs.Prelude.{List, [], ◌∷◌, map, Option, Some, None, if◌then◌else◌}
use Rattle.std.specs.List.{find, flat_map}
use Rattle.std.specs.Option.{option_and_then}
use Rattle.al_query.specs.Reads.{Table}
use Rattle.al_query.specs.declared.answer.Completion.{Completion}
use Rattle.al_scope.specs.Expanded.{within_unit}
use Rattle.al_scope.specs.PartialViews.{is_full_view, is_private}
use Rattle.al_scope.specs.Places.{Place}
use Rattle.al_view.specs.declared.symbol.Symbol.{Symbol}
use Rattle.al_view.specs.declared.types.TypeView.{TypeView}
use Rattle.al_view.specs.declared.view.DeclaredType.{DeclaredType}
use Rattle.al_view.specs.declared.view.SubtypeView.{SubtypeView}
use Rattle.al_view.specs.declared.view.ViewKind.{ViewKind}
use Rattle.al_view.specs.declared.view.ViewKind.TheVariants.{OfType, OfSubtype, OfObject, OfComponent, OfNumber, OfLiteral, OfSubprogram, OfTask, OfProtected, OfPackage}
use Rattle.al_scope.specs.Recasts.{recast, recast_subtype_view, view_types}
use Rattle.al_scope.specs.declared.recast.Recast.{Recast}

-- a partial view has no bounds
abbrev pub by_full : DeclaredType → Recast
by_full d = record { bounds = None; by = d }

abbrev pub recast_by : Option DeclaredType → List Recast
recast_by (Some d) = by_full d ∷ []
recast_by None = []

-- the type that a view declares
abbrev pub type_in : ViewKind → Option DeclaredType
type_in (OfType d) = Some d
type_in (OfSubtype s) = None
type_in (OfObject o) = None
type_in OfComponent = None
type_in (OfNumber n) = None
type_in (OfLiteral l) = None
type_in (OfSubprogram s) = None
type_in (OfTask t) = None
type_in (OfProtected p) = None
type_in (OfPackage s) = None

abbrev pub full_in : List ViewKind → Symbol → Option DeclaredType
full_in views s = option_and_then type_in (find (is_full_view s) views)

-- the full view of a private type, if the region of its package has one: if the package encloses the place, and its private part is seen there
abbrev pub full_of : Table → Place → Symbol → List Recast
full_of t place s = recast_by (full_in (within_unit t s.name s.unit place) s)

abbrev pub full_if_private : Table → Place → TypeView → List Recast
full_if_private t place of = if is_private of.definition then full_of t place of.symbol else []

-- the full views of the private types among these
abbrev pub full_views : Table → Place → List TypeView → List Recast
full_views t place types = flat_map (full_if_private t place) types

-- a declaration as a place sees it
unfoldable pub seen_at : Table → Place → ViewKind → ViewKind
seen_at t place v = recast (full_views t place (view_types v)) v

abbrev pub all_seen_at : Table → Place → List ViewKind → List ViewKind
all_seen_at t place views = map (seen_at t place) views

-- what waits for its body, as a place sees it
abbrev pub completion_seen_at : Table → Place → Completion → Completion
completion_seen_at t place c = record { name = c.name; view = seen_at t place c.view }

abbrev pub completions_seen_at : Table → Place → List Completion → List Completion
completions_seen_at t place completions = map (completion_seen_at t place) completions

-- a subtype as a place sees it
abbrev pub subtype_recast : List Recast → SubtypeView → SubtypeView
subtype_recast [] s = s
subtype_recast (r ∷ rs) s = recast_subtype_view (r ∷ rs) s

unfoldable pub subtype_seen_at : Table → Place → SubtypeView → SubtypeView
subtype_seen_at t place s = subtype_recast (full_views t place s.types) s
