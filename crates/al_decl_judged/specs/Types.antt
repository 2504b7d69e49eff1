-- What type definitions define (ARM 3.5.1, 3.5.4, 3.6, 3.8).
use Rattle.std.specs.Prelude.{ℕ, nat_le, List, [], ◌∷◌, ◌++◌, map, fold, Result, Ok, Err, unwrap_or, option_map, if◌then◌else◌}
use Rattle.al_base.specs.declared.place.Place.{Place}
use Rattle.al_base_fault.specs.declared.fault.Fault.{Fault}
use Rattle.al_base_fault.specs.Faults.{fault_at}
use Rattle.al_base_fault.specs.declared.check_rule.CheckRule.TheVariants.{OutOfLimits}
use Rattle.al_view.specs.declared.symbol.Symbol.{Symbol}
use Rattle.al_view.specs.declared.types.Bounds.{Bounds}
use Rattle.al_view.specs.declared.types.Component.{Component}
use Rattle.al_view.specs.declared.types.TypeDefinition.TheVariants.{Integer, Enumeration, Array, Record}
use Rattle.al_view.specs.declared.types.TypeView.{TypeView}
use Rattle.al_view.specs.declared.view.SubtypeView.{SubtypeView}
use Rattle.al_view.specs.Types.{layout_words}
use Rattle.al_view_predefined.specs.Standard.{scalar}
use Rattle.al_view_predefined.specs.StandardTypes.{type_of}
use Rattle.al_decl_judged.specs.declared.record.Part.{Part}
use Rattle.al_decl_judged.specs.Layouts.{array_layout, record_layout, values_in}
use Rattle.al_decl_judged.specs.TypeSubtypes.{subtype_bounds}
use Rattle.al_decl_judged.specs.TypeLists.{joined}

-- the words of a value of a subtype
abbrev pub words_of : SubtypeView → ℕ
words_of of = unwrap_or (option_map (λ t. layout_words t.layout) (type_of of.types of.subtype.base)) 0

-- how many values a scalar subtype has
abbrev pub values_of : SubtypeView → ℕ
values_of of = unwrap_or (option_map values_in (subtype_bounds of.types of.subtype)) 0

-- a type after those that it is of, if a value has at most 4,096 words; else the error is out of limits at its defining name
abbrev pub within_limits : Place → List TypeView → TypeView → Result (List TypeView) Fault
within_limits name types of = if nat_le (layout_words of.layout) 4096 then Ok (types ++ of ∷ []) else Err (fault_at name OutOfLimits)

abbrev pub integer_type : Symbol → Bounds → List TypeView
integer_type t bounds = scalar t (Integer bounds)

abbrev pub enumeration_type : Symbol → ℕ → List TypeView
enumeration_type t literals = scalar t (Enumeration literals)

abbrev pub array_view : Symbol → SubtypeView → SubtypeView → TypeView
array_view t index component = record {
  symbol = t;
  definition = Array index.subtype component.subtype;
  layout = array_layout (values_of index) (words_of component);
}

-- an array type, with its defining name there
abbrev pub array_type : Symbol → Place → SubtypeView → SubtypeView → Result (List TypeView) Fault
array_type t name index component = within_limits name (joined (joined [] index.types) component.types) (array_view t index component)

-- the types of the components, each once
abbrev pub part_types : List Part → List TypeView
part_types parts = fold (λ types p. joined types p.of.types) [] parts

abbrev pub component_of : Part → Component
component_of part = record { name = part.name; subtype = part.of.subtype }

abbrev pub components_of : List Part → List Component
components_of parts = map component_of parts

abbrev pub record_view : Symbol → List Part → TypeView
record_view t parts = record {
  symbol = t;
  definition = Record (components_of parts);
  layout = record_layout (map (λ p. words_of p.of) parts);
}

-- a record type, with its defining name there
abbrev pub record_type : Symbol → Place → List Part → Result (List TypeView) Fault
record_type t name parts = within_limits name (part_types parts) (record_view t parts)
