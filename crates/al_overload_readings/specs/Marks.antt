-- Names of types and subtypes (ARM 3.2.2).
use Rattle.std.specs.Prelude.{List, [], ◌∷◌, length, ◌-◌, slice_get, Option, Some, None, option_map}
use Rattle.al_view.specs.Types.{definition_bounds}
use Rattle.al_view.specs.declared.types.TypeView.{TypeView}
use Rattle.al_view.specs.declared.view.DeclaredType.{DeclaredType}
use Rattle.al_view.specs.declared.view.SubtypeView.{SubtypeView}
use Rattle.al_view.specs.declared.view.ViewKind.{ViewKind}
use Rattle.al_view.specs.declared.view.ViewKind.TheVariants as views

-- a type, the last of the types that it is of, with all its values
abbrev pub whole : DeclaredType → TypeView → SubtypeView
whole t of = record { subtype = record { base = of.symbol; bounds = definition_bounds of.definition }; types = t.types; literals = t.literals }

unfoldable pub marked_by : DeclaredType → Option SubtypeView
marked_by t = option_map (whole t) (slice_get t.types (length t.types - 1))

-- the subtype that a declaration gives a name, if it is a type or a subtype
unfoldable pub mark_of : ViewKind → Option SubtypeView
mark_of (views.OfType t) = marked_by t
mark_of (views.OfSubtype s) = Some s
mark_of _ = None

-- the subtype that is all that is visible under a name: it isn't overloadable (ARM 8.3(26))
abbrev pub mark_in : List ViewKind → Option SubtypeView
mark_in (v ∷ []) = mark_of v
mark_in _ = None
