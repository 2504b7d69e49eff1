-- Objects and parts of objects, with their nominal subtypes (ARM 3.3, 4.1).
use Rattle.std.specs.Prelude.{ℕ, List, [], ◌∷◌, find, Option, Some, None, option_map}
use Rattle.std.specs.Option.{option_and_then}
use Rattle.std.specs.Str.{bytes_eq}
use Rattle.al_view_predefined.specs.StandardTypes.{type_of}
use Rattle.al_overload.specs.Terms.{TermTree, TermTree as t}
use Rattle.al_view.specs.declared.types.Component.{Component}
use Rattle.al_view.specs.declared.types.Subtype.{Subtype}
use Rattle.al_view.specs.declared.types.TypeDefinition.{TypeDefinition}
use Rattle.al_view.specs.declared.types.TypeDefinition.TheVariants as definitions
use Rattle.al_view.specs.declared.types.TypeView.{TypeView}
use Rattle.al_view.specs.declared.view.ViewKind.{ViewKind}
use Rattle.al_view.specs.declared.view.ViewKind.TheVariants as views
use Rattle.al_overload.specs.declared.part.Nominal.{Nominal}

-- what the type of a nominal subtype is defined as, if that is known
abbrev pub definition_of : List TypeView → Subtype → Option TypeDefinition
definition_of types subtype = option_map (λ (of : TypeView). of.definition) (type_of types subtype.base)

abbrev pub nominal : List TypeView → Subtype → Nominal
nominal types subtype = record { subtype = subtype; types = types }

-- an object, with its subtype
abbrev pub object_in : ViewKind → Option Nominal
object_in (views.OfObject o) = Some (nominal o.types o.subtype)
object_in _ = None

-- the object that is all that is visible: an object isn't overloadable (ARM 8.3(26))
abbrev pub sole_object : List ViewKind → Option Nominal
sole_object (v ∷ []) = object_in v
sole_object _ = None

-- the component of that name of a record (ARM 4.1.3)
abbrev pub component_named : List ℕ → List Component → Option Subtype
component_named name components = option_map (λ (c : Component). c.subtype) (find (λ (c : Component). bytes_eq name c.name) components)

abbrev pub component_in : List ℕ → TypeDefinition → Option Subtype
component_in name (definitions.Record components) = component_named name components
component_in name _ = None

-- a component of an array, by an index (ARM 4.1.1)
abbrev pub element_in : TypeDefinition → Option Subtype
element_in (definitions.Array index component) = Some component
element_in _ = None

-- a part of what has this nominal subtype
abbrev pub component_of : List ℕ → Nominal → Option Nominal
component_of name whole = option_map (nominal whole.types) (option_and_then (component_in name) (definition_of whole.types whole.subtype))

abbrev pub element_of : Nominal → Option Nominal
element_of whole = option_map (nominal whole.types) (option_and_then element_in (definition_of whole.types whole.subtype))

-- The nominal subtype of a term that is an object or a part of one, without regard to indexes. What is selected or indexed in a
-- call's result, in a conversion or in a qualified expression is none.
abbrev pub part_of : TermTree → Option Nominal
part_of (t.NamedTerm place visible) = sole_object visible
part_of (t.SelectedTerm prefix name) = option_and_then (component_of name) (part_of prefix)
part_of (t.AppliedTerm prefix arguments) = option_and_then element_of (part_of prefix)
part_of _ = None

-- what is visible under a term that is a name
abbrev pub declared_under : TermTree → Option (List ViewKind)
declared_under (t.NamedTerm place visible) = Some visible
declared_under _ = None
