-- Names of objects by their labelling: a name may be of several objects, if subprograms of one name enclose the place; what fits decides which is
-- meant (ARM 4.1.3(13), 8.6).
use Rattle.std.specs.Prelude.{ℕ, Bool, false, not, List, Option, Some, None, option_map, Result, Ok, Err}
use Rattle.std.specs.Option.{option_and_then, option_map_or}
use Rattle.al_base_fault.specs.Judging.{next}
use Rattle.al_base_fault.specs.declared.fault.Fault.{Fault}
use Rattle.al_overload.specs.Meanings.{nothing_fits}
use Rattle.al_overload.specs.declared.context.Context.TheVariants as contexts
use Rattle.al_overload.specs.Labelling.{Label}
use Rattle.al_overload.specs.Interpreting.{interpreted}
use Rattle.al_overload.specs.Parts.{declared_under, nominal, part_of}
use Rattle.al_overload.specs.declared.everywhere.Predefined.{Predefined}
use Rattle.al_overload.specs.declared.part.Nominal.{Nominal}
use Rattle.al_overload_nodes.specs.Names.{is_variable}
use Rattle.al_overload.specs.Labels.{number_in}
use Rattle.al_overload.specs.Picks.{pick}
use Rattle.al_overload.specs.PickedTypes.{Indexing, indexing}
use Rattle.al_overload.specs.Places.{first_place}
use Rattle.al_overload.specs.Terms.{TermTree, TermTree as t}
use Rattle.al_view.specs.declared.view.ObjectView.{ObjectView}
use Rattle.al_view.specs.declared.view.ViewKind.{ViewKind}
use Rattle.al_view.specs.declared.view.ViewKind.TheVariants as views

abbrev pub object_of : ViewKind → Option ObjectView
object_of (views.OfObject o) = Some o
object_of (views.OfNumber value) = None
object_of (views.OfLiteral l) = None
object_of (views.OfSubprogram s) = None
object_of views.OfComponent = None
object_of (views.OfType of) = None
object_of (views.OfSubtype s) = None
object_of (views.OfTask of) = None
object_of (views.OfProtected p) = None
object_of (views.OfPackage symbol) = None

-- the object that the candidate of a name means
abbrev pub picked_object : List ViewKind → Label → Option ObjectView
picked_object visible label = option_and_then (λ (c : ViewKind × ℕ). object_of c.0) (pick (number_in label) visible)

abbrev pub is_variable_object : Option ObjectView → Bool
is_variable_object object = option_map_or (λ (o : ObjectView). not o.is_constant) object false

-- whether what is indexed is a variable; of a name that is all by the labelling of the whole
abbrev pub variable_under : TermTree → Option (List ViewKind) → Label → Bool
variable_under prefix (Some visible) label = is_variable_object (picked_object visible label)
variable_under prefix None label = is_variable prefix

-- whether a term with its labelling names a variable or a part of one (ARM 3.3(13))
abbrev pub variable_as : TermTree → Label → Bool
variable_as (t.NamedTerm place visible) label = is_variable_object (picked_object visible label)
variable_as (t.AppliedTerm prefix arguments) label = variable_under prefix (declared_under prefix) label
variable_as term label = is_variable term

abbrev pub whole_part : ObjectView → Nominal
whole_part o = nominal o.types o.subtype

abbrev pub component_part : ObjectView → Option Nominal
component_part o = option_map (λ (by : Indexing). nominal o.types by.component) (indexing o.types o.subtype.base)

abbrev pub part_under : Option (List ViewKind) → Label → Option Nominal
part_under (Some visible) label = option_and_then component_part (picked_object visible label)
part_under None label = None

-- the nominal subtype of a name of several objects, or of a component of one
abbrev pub part_as : TermTree → Label → Option Nominal
part_as (t.NamedTerm place visible) label = option_map whole_part (picked_object visible label)
part_as (t.AppliedTerm prefix arguments) label = part_under (declared_under prefix) label
part_as term label = None

abbrev pub or_nothing_fits : TermTree → Option Nominal → Result Nominal Fault
or_nothing_fits term of = option_map_or Ok of (Err (nothing_fits (first_place term)))

abbrev pub target_part_of : Predefined → TermTree → Option Nominal → Result Nominal Fault
target_part_of p term (Some of) = Ok of
target_part_of p term None = next (interpreted p contexts.Target None term) (λ (l : Label). or_nothing_fits term (part_as term l))

-- the nominal subtype of the target of an assignment; what is no object or part of one fits nothing
unfoldable pub target_part : Predefined → TermTree → Result Nominal Fault
target_part p term = target_part_of p term (part_of term)
