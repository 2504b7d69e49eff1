-- What terms without expressions in them are, and what is made of the operands of others (ARM 8.6).
use Rattle.std.specs.Prelude.{ℕ, pos, ◌-ℤ◌, int_lt, ◌==◌, Bool, true, false, List, slice_get, option_map, Option, Some, None, Result, Ok, Err, if◌then◌else◌}
use Rattle.std.specs.Option.{option_and_then, option_map_or}
use Rattle.al_base.specs.declared.place.Place.{Place}
use Rattle.al_overload.specs.Labelling.{Label}
use Rattle.al_overload.specs.declared.types.ValueType.{ValueType}
use Rattle.al_base_fault.specs.Judging.{map_ok, unless}
use Rattle.al_base_fault.specs.declared.fault.Fault.{Fault}
use Rattle.al_overload.specs.Types.{value_type}
use Rattle.al_overload.specs.Meanings.{nothing_fits}
use Rattle.al_view_predefined.specs.StandardTypes.{type_of}
use Rattle.al_static.specs.Combining.{failure_in}
use Rattle.al_static.specs.declared.knowledge.Known.{Known}
use Rattle.al_static.specs.declared.knowledge.Known.TheVariants.{Value, Fails, Open}
use Rattle.al_view_typed.specs.ExpressionTrees.{TypedTree, FormTree, ValueTree, ActualTree}
use Rattle.al_view_typed.specs.ExpressionTrees.FormTree.{AggregateForm, LiteralForm, OthersForm}
use Rattle.al_view_typed.specs.ExpressionTrees.ValueTree.{Checked}
use Rattle.al_view_typed.specs.ExpressionViews.{values_of}
use Rattle.al_view_typed.specs.declared.label.Conversion.{Conversion}
use Rattle.al_view_typed.specs.declared.label.Conversion.TheVariants as conversions
use Rattle.al_view.specs.declared.symbol.Symbol.{Symbol}
use Rattle.al_view.specs.declared.types.Bounds.{Bounds}
use Rattle.al_view.specs.declared.types.Component.{Component}
use Rattle.al_view.specs.declared.types.StaticValue.{StaticValue}
use Rattle.al_view.specs.declared.types.Subtype.{Subtype}
use Rattle.al_view.specs.declared.types.TypeDefinition.{TypeDefinition}
use Rattle.al_view.specs.declared.types.TypeDefinition.TheVariants as definitions
use Rattle.al_view.specs.declared.types.TypeView.{TypeView}
use Rattle.al_view.specs.declared.view.ObjectView.{ObjectView}
use Rattle.al_view.specs.declared.view.Parameter.{Parameter}
use Rattle.al_view.specs.declared.view.SubprogramView.{SubprogramView}
use Rattle.al_view.specs.declared.view.SubtypeView.{SubtypeView}
use Rattle.al_view.specs.declared.view.ViewKind.{ViewKind}
use Rattle.al_view.specs.declared.view.ViewKind.TheVariants as views
use Rattle.al_overload.specs.Universal.{is_position}
use Rattle.al_overload.specs.declared.everywhere.Predefined.{Predefined}
use Rattle.al_overload.specs.declared.part.Nominal.{Nominal}
use Rattle.al_overload_nodes.specs.Calls.{call_node, with_actual}
use Rattle.al_overload_nodes.specs.Gathering.{Parts, no_parts, with_part}
use Rattle.al_overload.specs.Labels.{number_in, operand_label}
use Rattle.al_overload_nodes.specs.Names.{element_node, is_variable, object_node}
use Rattle.al_overload_nodes.specs.Nodes.{ReadingTree, conversion_node, faulty, literal, membership_node, misfit, node}
use Rattle.al_overload_nodes.specs.Operators.{Signature}
use Rattle.al_overload.specs.Picks.{pick}
use Rattle.al_overload.specs.PickedTypes.{Indexing, count_of, indexing, length_of, positions_in, range_in}

-- ---- what has no expressions in it

abbrev pub bound_word : Bool → Bounds → StaticValue
bound_word is_last bounds = record { word = if is_last then bounds.high else bounds.low }

-- the first or the last value of a subtype
abbrev pub bound_node : Symbol → Place → SubtypeView → Bool → ReadingTree
bound_node root place mark is_last =
    option_map_or (λ (b : Bounds). literal root place mark.types mark.subtype.base (bound_word is_last b)) (range_in mark.types mark.subtype) (misfit place)

-- the length of an index range is static; one of more values than the largest word fails (ARM 3.6.2, 4.9)
abbrev pub length_known : Place → Bounds → Known
length_known place b = if int_lt (b.high -ℤ b.low) (pos 9223372036854775807) then Value (record { word = length_of b }) else Fails place

abbrev pub length_node : Symbol → Place → List TypeView → Symbol → Bounds → ReadingTree
length_node root place types at b = node root place types at None (length_known place b) (Ok (LiteralForm (record { word = length_of b })))

-- a declaration that is named alone, if this candidate of it is meant
abbrev pub view_node : Symbol → Option Symbol → Place → List TypeView → Symbol → ViewKind → ReadingTree
view_node root own place types at (views.OfObject o) = object_node root place o
view_node root own place types at (views.OfNumber value) = literal root place types at value
view_node root own place types at (views.OfLiteral l) = literal root place l.types l.base (record { word = pos l.position })
view_node root own place types at (views.OfSubprogram s) = call_node root own place s no_parts
view_node root own place types at views.OfComponent = misfit place
view_node root own place types at (views.OfType of) = misfit place
view_node root own place types at (views.OfSubtype s) = misfit place
view_node root own place types at (views.OfTask of) = misfit place
view_node root own place types at (views.OfProtected p) = misfit place
view_node root own place types at (views.OfPackage symbol) = misfit place

abbrev pub candidate_node : Symbol → Option Symbol → Place → List TypeView → Symbol → ViewKind × ℕ → ReadingTree
candidate_node root own place types at c = if c.1 == 0 then view_node root own place types at c.0 else misfit place

abbrev pub named_node : Symbol → Option Symbol → Place → List ViewKind → Label → List TypeView → Symbol → ReadingTree
named_node root own place visible label types at = option_map_or (candidate_node root own place types at) (pick (number_in label) visible) (misfit place)

-- ---- what has expressions in it

-- what comes after a name: arguments of a call, an index of an object, or an index of a part of one
pub data Application : Type 0 where
  CallOf : SubprogramView → Application
  ElementOf : ObjectView → Application
  ElementOfPart : Nominal → Application
  Misapplied : Application

abbrev pub applied_view : ViewKind × ℕ → Application
applied_view (views.OfSubprogram s, n) = CallOf s
applied_view (views.OfObject o, n) = ElementOf o
applied_view (views.OfNumber value, n) = Misapplied
applied_view (views.OfLiteral l, n) = Misapplied
applied_view (views.OfComponent, n) = Misapplied
applied_view (views.OfType of, n) = Misapplied
applied_view (views.OfSubtype s, n) = Misapplied
applied_view (views.OfTask of, n) = Misapplied
applied_view (views.OfProtected p, n) = Misapplied
applied_view (views.OfPackage symbol, n) = Misapplied

abbrev pub application : Option (List ViewKind) → Option Nominal → Label → Application
application (Some visible) part label = option_map_or applied_view (pick (number_in label) visible) Misapplied
application None part label = option_map_or ElementOfPart part Misapplied

-- a component of an array, if an index is read at its type
abbrev pub indexed_node : Symbol → Place → List TypeView → Symbol → ReadingTree → (Symbol → ReadingTree) → ReadingTree
indexed_node root place types of whole index =
    option_map_or (λ (by : Indexing). element_node root place types by whole (index by.index)) (indexing types of) (misfit place)

-- the k-th component of an aggregate of this type
abbrev pub component_in : ℕ → TypeDefinition → Option Subtype
component_in k (definitions.Array index component) = Some component
component_in k (definitions.Record components) = option_map (λ (c : Component). c.subtype) (slice_get components k)
component_in k (definitions.Integer bounds) = None
component_in k (definitions.Enumeration literals) = None
component_in k definitions.Time = None
component_in k definitions.Private = None

-- the type that an attribute's argument has, and what its value is checked against
abbrev pub argument_type : Symbol → Conversion → SubtypeView → Symbol
argument_type root conversions.Val mark = root
argument_type root conversions.Pos mark = mark.subtype.base
argument_type root conversions.Succ mark = mark.subtype.base
argument_type root conversions.Pred mark = mark.subtype.base
argument_type root conversions.ToType mark = mark.subtype.base
argument_type root conversions.Qualification mark = mark.subtype.base
argument_type root conversions.Milliseconds mark = mark.subtype.base

abbrev pub argument_check : Conversion → SubtypeView → Option Bounds
argument_check conversions.Pos mark = None
argument_check conversions.Val mark = positions_in mark.types mark.subtype.base
argument_check conversions.Succ mark = positions_in mark.types mark.subtype.base
argument_check conversions.Pred mark = positions_in mark.types mark.subtype.base
argument_check conversions.ToType mark = range_in mark.types mark.subtype
argument_check conversions.Qualification mark = range_in mark.types mark.subtype
argument_check conversions.Milliseconds mark = range_in mark.types mark.subtype

-- `S'Pos (X)` is a number, which has the type that is wanted of it; the others are of S's type
abbrev pub attribute_node : Symbol → Place → Conversion → SubtypeView → List TypeView → Symbol → ReadingTree → ReadingTree
attribute_node root place conversion mark types at argument =
    if is_position conversion then conversion_node root place types at None conversions.Pos None argument
    else conversion_node root place mark.types mark.subtype.base None conversion (argument_check conversion mark) argument

-- a conversion to this subtype, or a qualified expression of it
abbrev pub mark_node : Symbol → Place → Conversion → SubtypeView → ReadingTree → ReadingTree
mark_node root place conversion mark operand =
    conversion_node root place mark.types mark.subtype.base (range_in mark.types mark.subtype) conversion (range_in mark.types mark.subtype) operand

-- a value with the range against which it is checked
abbrev pub checked : Option Bounds → TypedTree → ValueTree
checked range value = Checked value range

abbrev pub with_value : Parts ValueTree → Option Bounds → ReadingTree → Parts ValueTree
with_value values range value = with_part values (failure_in value.known) (map_ok (checked range) value.tree)

abbrev pub aggregate_node : Symbol → Place → List TypeView → Symbol → Parts ValueTree → ReadingTree
aggregate_node root place types at values =
    node root place types at None (Open values.failure) (unless values.fault (Ok (AggregateForm (values_of values.items))))

abbrev pub others_form : Bounds → Option Bounds → TypedTree → FormTree
others_form bounds range value = OthersForm (count_of bounds) (checked range value)

abbrev pub others_of : Symbol → Place → List TypeView → Symbol → Bounds → Subtype → ReadingTree → ReadingTree
others_of root place types at bounds component value =
    node root place types at None (Open (failure_in value.known)) (map_ok (others_form bounds (range_in types component)) value.tree)

abbrev pub others_in : Symbol → Place → List TypeView → Symbol → (Symbol → ReadingTree) → Indexing → ReadingTree
others_in root place types at component by = others_of root place types at by.bounds by.component (component by.component.base)

abbrev pub others_node : Symbol → Place → List TypeView → Symbol → (Symbol → ReadingTree) → ReadingTree
others_node root place types at component = option_map_or (others_in root place types at component) (indexing types at) (misfit place)

-- a membership test, whose operands are read at their type
abbrev pub in_range_node : Predefined → Place → List TypeView → Bool → ReadingTree → ReadingTree → ReadingTree → ReadingTree
in_range_node p place types is_negated value low high = membership_node p.root place types p.types.boolean.symbol is_negated value low high

abbrev pub in_bounds_node : Predefined → Place → Bool → SubtypeView → ReadingTree → Bounds → ReadingTree
in_bounds_node p place is_negated mark value b =
    in_range_node p place mark.types is_negated value (literal p.root place mark.types mark.subtype.base (bound_word false b)) (literal p.root place mark.types mark.subtype.base (bound_word true b))

abbrev pub in_mark_node : Predefined → Place → Bool → SubtypeView → ReadingTree → ReadingTree
in_mark_node p place is_negated mark value = option_map_or (in_bounds_node p place is_negated mark value) (range_in mark.types mark.subtype) (misfit place)

abbrev pub mark_type : SubtypeView → ValueType
mark_type mark = value_type mark.types mark.subtype.base

-- what a context inside is, if it has an interpretation
abbrev pub inner : (Label → ReadingTree) → Result Label Fault → ReadingTree
inner read (Ok label) = read label
inner read (Err fault) = faulty fault

-- an operand with its labelling
abbrev pub labelled : Place → (Label → ReadingTree) → Option Label → ReadingTree
labelled place read label = option_map_or read label (misfit place)

abbrev pub signed : Place → (Signature → ReadingTree) → Option Signature → ReadingTree
signed place read s = option_map_or read s (misfit place)

abbrev pub applied_node : Symbol → Option Symbol → Place → (SubprogramView → Parts ActualTree) → ReadingTree → (ℕ → List TypeView → Symbol → ReadingTree) → Application → ReadingTree
applied_node root own place actuals whole index (CallOf s) = call_node root own place s (actuals s)
applied_node root own place actuals whole index (ElementOf o) =
    indexed_node root place o.types o.subtype.base (object_node root place o) (index 0 o.types)
applied_node root own place actuals whole index (ElementOfPart part) =
    indexed_node root place part.types part.subtype.base whole (index 1 part.types)
applied_node root own place actuals whole index Misapplied = misfit place

-- the actual parameter for the n-th formal, which is read at that one's type
abbrev pub actual_of : SubprogramView → Option Label → Parts ActualTree → Place → Bool → (Label → Symbol → ReadingTree) → Parameter → Parts ActualTree
actual_of s label actuals place is_variable read q =
    with_actual actuals q.mode (range_in s.types q.subtype) place is_variable (labelled place (λ l. read l q.subtype.base) label)

abbrev pub actual_read : SubprogramView → Label → ℕ → Parts ActualTree → Place → Bool → (Label → Symbol → ReadingTree) → Parts ActualTree
actual_read s label n actuals place is_variable read =
    option_map_or (actual_of s (operand_label n label) actuals place is_variable read) (slice_get s.profile.parameters n)
    (with_part actuals None (Err (nothing_fits place)))

-- the value of the n-th component, which is read at that one's type
abbrev pub component_of_type : List TypeView → Symbol → ℕ → Option Subtype
component_of_type types at n = option_and_then (λ (of : TypeView). component_in n of.definition) (type_of types at)

abbrev pub value_of : List TypeView → Option Label → Parts ValueTree → Place → (Label → Symbol → ReadingTree) → Subtype → Parts ValueTree
value_of types label values place read subtype = with_value values (range_in types subtype) (labelled place (λ l. read l subtype.base) label)

abbrev pub component_read : List TypeView → Symbol → Label → ℕ → Parts ValueTree → Place → (Label → Symbol → ReadingTree) → Parts ValueTree
component_read types at label n values place read =
    option_map_or (value_of types (operand_label n label) values place read) (component_of_type types at n)
    (with_part values None (Err (nothing_fits place)))
