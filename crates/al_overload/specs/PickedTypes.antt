-- Types, words and ranges as labels show them.
use Rattle.std.specs.Prelude.{ℕ, ℤ, pos, ◌+ℤ◌, ◌-ℤ◌, int_lt, min, unsigned_abs, Bool, true, false, List, zip, find, Option, Some, None, option_map, unwrap_or, if◌then◌else◌}
use Rattle.std.specs.Int.{saturate_signed, w64}
use Rattle.std.specs.Option.{option_and_then, option_map_or, option_or}
use Rattle.std.specs.Str.{bytes_eq}
use Rattle.al_view_predefined.specs.StandardTypes.{type_of}
use Rattle.al_view.specs.Types.{definition_bounds, layout_words}
use Rattle.al_view.specs.declared.symbol.Symbol.{Symbol}
use Rattle.al_view.specs.declared.types.Bounds.{Bounds}
use Rattle.al_view.specs.declared.types.Component.{Component}
use Rattle.al_view.specs.declared.types.Layout.{Layout}
use Rattle.al_view.specs.declared.types.Layout.TheVariants as layouts
use Rattle.al_view.specs.declared.types.Subtype.{Subtype}
use Rattle.al_view.specs.declared.types.TypeDefinition.{TypeDefinition}
use Rattle.al_view.specs.declared.types.TypeDefinition.TheVariants as definitions
use Rattle.al_view.specs.declared.types.TypeView.{TypeView}

-- the words of a value; of a type that isn't known none
abbrev pub words_in : List TypeView → Symbol → ℕ
words_in types of = unwrap_or (option_map (λ (t : TypeView). layout_words t.layout) (type_of types of)) 0

abbrev pub type_range : List TypeView → Symbol → Option Bounds
type_range types of = option_and_then (λ (t : TypeView). definition_bounds t.definition) (type_of types of)

-- the range of a scalar subtype: its own, or else that of its type
abbrev pub range_in : List TypeView → Subtype → Option Bounds
range_in types subtype = option_or subtype.bounds (type_range types subtype.base)

-- the range of a whole enumeration, which is positions; none of another type
abbrev pub positions_of : TypeDefinition → Option Bounds
positions_of (definitions.Enumeration literals) = definition_bounds (definitions.Enumeration literals)
positions_of (definitions.Integer bounds) = None
positions_of (definitions.Array index component) = None
positions_of (definitions.Record components) = None
positions_of definitions.Time = None
positions_of definitions.Private = None

abbrev pub positions_in : List TypeView → Symbol → Option Bounds
positions_in types of = option_and_then (λ (t : TypeView). positions_of t.definition) (type_of types of)

-- whether values are seen to be one word that is compared by its order
abbrev pub is_scalar_definition : TypeDefinition → Bool
is_scalar_definition (definitions.Integer bounds) = true
is_scalar_definition (definitions.Enumeration literals) = true
is_scalar_definition (definitions.Array index component) = false
is_scalar_definition (definitions.Record components) = false
is_scalar_definition definitions.Time = false
is_scalar_definition definitions.Private = false

abbrev pub is_scalar_type : List TypeView → Symbol → Bool
is_scalar_type types of = option_map_or (λ (t : TypeView). is_scalar_definition t.definition) (type_of types of) false

-- how many values a range has
abbrev pub length_of : Bounds → ℤ
length_of b = if int_lt b.high b.low then pos 0 else saturate_signed w64 (saturate_signed w64 (b.high -ℤ b.low) +ℤ pos 1)

-- the length of a range as a number of components
abbrev pub count_of : Bounds → ℕ
count_of b = min (unsigned_abs (length_of b)) 4294967295

-- an array's index and component
abbrev pub array_in : TypeDefinition → Option (Subtype × Subtype)
array_in (definitions.Array index component) = Some (index, component)
array_in (definitions.Integer bounds) = None
array_in (definitions.Enumeration literals) = None
array_in (definitions.Record components) = None
array_in definitions.Time = None
array_in definitions.Private = None

abbrev pub array_of : List TypeView → Symbol → Option (Subtype × Subtype)
array_of types of = option_and_then (λ (t : TypeView). array_in t.definition) (type_of types of)

-- what the type of an index is, what range it has, and what it leads to
pub record Indexing : Type 0 where
  pub index : Symbol
  pub bounds : Bounds
  pub component : Subtype

abbrev pub indexing_of : Symbol → Bounds → Subtype → Indexing
indexing_of index bounds component = record { index = index; bounds = bounds; component = component }

abbrev pub indexing_by : Subtype × Subtype → Bounds → Indexing
indexing_by array bounds = indexing_of array.0.base bounds array.1

abbrev pub indexing_with : List TypeView → Subtype × Subtype → Option Indexing
indexing_with types array = option_map (indexing_by array) (range_in types array.0)

abbrev pub indexing : List TypeView → Symbol → Option Indexing
indexing types of = option_and_then (indexing_with types) (array_of types of)

-- a component of that name, with the word of the record from which it lies
abbrev pub placed : List ℕ → List Component → List ℕ → Option (Subtype × ℕ)
placed name components offsets =
    option_map (λ (x : Component × ℕ). (x.0.subtype, x.1)) (find (λ (x : Component × ℕ). bytes_eq name x.0.name) (zip components offsets))

abbrev pub placed_by : List ℕ → List Component → Layout → Option (Subtype × ℕ)
placed_by name components (layouts.Record offsets words) = placed name components offsets
placed_by name components layouts.Scalar = None
placed_by name components (layouts.Array component words) = None
placed_by name components (layouts.Words words) = None

abbrev pub placed_in : List ℕ → Layout → TypeDefinition → Option (Subtype × ℕ)
placed_in name layout (definitions.Record components) = placed_by name components layout
placed_in name layout (definitions.Integer bounds) = None
placed_in name layout (definitions.Enumeration literals) = None
placed_in name layout (definitions.Array index component) = None
placed_in name layout definitions.Time = None
placed_in name layout definitions.Private = None

abbrev pub component_at : List ℕ → List TypeView → Symbol → Option (Subtype × ℕ)
component_at name types of = option_and_then (λ (t : TypeView). placed_in name t.layout t.definition) (type_of types of)
