-- Partial views of private types, and full ones, which take their place (ARM 7.3(5), 8.3(14)).
use Rattle.std.specs.Prelude.{ℕ, ◌-◌, Bool, true, false, not, ◌&&◌, List, length, slice_get, filter, find, Option, Some, None, is_some, if◌then◌else◌}
use Rattle.std.specs.List.{list_any}
use Rattle.std.specs.Option.{option_and_then, option_map_or}
use Rattle.al_view.specs.Named.{Declarations}
use Rattle.al_view.specs.Symbols.{same_symbol}
use Rattle.al_view.specs.declared.symbol.Symbol.{Symbol}
use Rattle.al_view.specs.declared.types.TypeDefinition.{TypeDefinition}
use Rattle.al_view.specs.declared.types.TypeDefinition.TheVariants.{Integer, Enumeration, Array, Record, Time, Private}
use Rattle.al_view.specs.declared.types.TypeView.{TypeView}
use Rattle.al_view.specs.declared.view.ViewKind.{ViewKind}
use Rattle.al_view.specs.declared.view.ViewKind.TheVariants.{OfType, OfSubtype, OfObject, OfComponent, OfNumber, OfLiteral, OfSubprogram, OfTask, OfProtected, OfPackage}

-- a type of which only its partial view is seen
abbrev pub is_private : TypeDefinition → Bool
is_private Private = true
is_private (Integer bounds) = false
is_private (Enumeration literals) = false
is_private (Array index component) = false
is_private (Record components) = false
is_private Time = false

-- the last of the types that a type is of is that type
abbrev pub own_type : List TypeView → Option TypeView
own_type types = slice_get types (length types - 1)

-- the type that a view declares
abbrev pub declared_type : ViewKind → Option TypeView
declared_type (OfType d) = own_type d.types
declared_type (OfSubtype s) = None
declared_type (OfObject o) = None
declared_type OfComponent = None
declared_type (OfNumber n) = None
declared_type (OfLiteral l) = None
declared_type (OfSubprogram s) = None
declared_type (OfTask t) = None
declared_type (OfProtected p) = None
declared_type (OfPackage s) = None

-- the private type whose partial view this is
abbrev pub partial_type : ViewKind → Option Symbol
partial_type v = option_and_then (λ (t : TypeView). if is_private t.definition then Some t.symbol else None) (declared_type v)

-- whether it is the full view of that type
abbrev pub is_full_view : Symbol → ViewKind → Bool
is_full_view s v = option_map_or (λ (t : TypeView). not (is_private t.definition) && same_symbol s t.symbol) (declared_type v) false

-- a partial view gives way to the full view of its type, if that is there too
abbrev pub gives_way : List ViewKind → ViewKind → Bool
gives_way views v = option_map_or (λ (s : Symbol). list_any (is_full_view s) views) (partial_type v) false

abbrev pub without_partial : List ViewKind → List ViewKind
without_partial views = filter (λ v. not (gives_way views v)) views

-- ---- private types whose full declaration is still to come

abbrev pub is_incomplete : List ViewKind → ViewKind → Bool
is_incomplete views v = is_some (partial_type v) && not (gives_way views v)

abbrev pub has_incomplete : List ViewKind → Bool
has_incomplete views = list_any (is_incomplete views) views

-- whether the i-th name is such a type's
abbrev pub incomplete_at : Declarations → ℕ → Bool
incomplete_at declared i = option_map_or (λ (named : List ℕ × List ViewKind). has_incomplete named.1) (slice_get declared i) false

-- whether there are any among declarations
abbrev pub some_incomplete : Declarations → Bool
some_incomplete declared = list_any (λ (named : List ℕ × List ViewKind). has_incomplete named.1) declared

-- the private type that the first of these partial views shows
abbrev pub first_partial : List ViewKind → Option Symbol
first_partial views = option_and_then partial_type (find (λ v. is_some (partial_type v)) views)
