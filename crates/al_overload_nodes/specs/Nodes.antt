-- A labelled tree with what is known of its value, and how it is put together.
use Rattle.std.specs.Prelude.{Bool, List, Option, Some, None, Result, Ok, Err, if◌then◌else◌}
use Rattle.al_base.specs.declared.place.Place.{Place}
use Rattle.al_base_fault.specs.Judging.{both, map_ok, unless}
use Rattle.al_base_fault.specs.declared.fault.Fault.{Fault}
use Rattle.al_overload.specs.Meanings.{nothing_fits}
use Rattle.al_static.specs.Combining.{converted, failure_in, membership}
use Rattle.al_static.specs.declared.knowledge.Known.{Known}
use Rattle.al_static.specs.declared.knowledge.Known.TheVariants.{Value, Fails, Open}
use Rattle.al_view_typed.specs.ExpressionTrees.{TypedTree, FormTree}
use Rattle.al_view_typed.specs.ExpressionTrees.TypedTree.{Labelled}
use Rattle.al_view_typed.specs.ExpressionTrees.FormTree.{LiteralForm, ConvertedForm, MembershipForm}
use Rattle.al_view_typed.specs.ExpressionTrees.ValueTree.{Checked}
use Rattle.al_view_typed.specs.declared.label.Conversion.{Conversion}
use Rattle.al_view_typed.specs.declared.label.ExpressionType.{ExpressionType}
use Rattle.al_view_typed.specs.declared.label.ExpressionType.TheVariants.{Declared, RootInteger}
use Rattle.al_view_typed.specs.declared.label.Labels.{Labels}
use Rattle.al_view.specs.Symbols.{same_symbol}
use Rattle.al_view.specs.declared.symbol.Symbol.{Symbol}
use Rattle.al_view.specs.declared.types.Bounds.{Bounds}
use Rattle.al_view.specs.declared.types.StaticValue.{StaticValue}
use Rattle.al_view.specs.declared.types.TypeView.{TypeView}
use Rattle.al_overload.specs.PickedTypes.{words_in}

-- a type; the root type of all integer types has no declaration
abbrev pub expression_type : Symbol → Symbol → ExpressionType
expression_type root of = if same_symbol of root then RootInteger else Declared of

-- What a term is with its labelling: what is known of its value, and its labelled tree, or the first fault in it that isn't
-- a static failure.
pub record ReadingTree : Type 0 where
  pub known : Known
  pub tree : Result TypedTree Fault

abbrev pub value_in : Known → Option StaticValue
value_in (Value v) = Some v
value_in (Fails place) = None
value_in (Open fault) = None

abbrev pub labels_for : Symbol → Place → List TypeView → Symbol → Option Bounds → Known → Labels
labels_for root place types of bounds known =
    record { place = place; of = expression_type root of; bounds = bounds; words = words_in types of; value = value_in known }

-- an expression that begins there, of this type among these, with its nominal range, its value and its form
unfoldable pub node : Symbol → Place → List TypeView → Symbol → Option Bounds → Known → Result FormTree Fault → ReadingTree
node root place types of bounds known form =
    record { known = known; tree = map_ok (Labelled (labels_for root place types of bounds known)) form }

-- What a labelling doesn't fit. No labelling of a term's heads is one.
abbrev pub faulty : Fault → ReadingTree
faulty fault = record { known = Open None; tree = Err fault }

abbrev pub misfit : Place → ReadingTree
misfit place = faulty (nothing_fits place)

abbrev pub literal : Symbol → Place → List TypeView → Symbol → StaticValue → ReadingTree
literal root place types of value = node root place types of None (Value value) (Ok (LiteralForm value))

-- a conversion, a qualified expression or an attribute that is like one
abbrev pub converted_form : Conversion → Option Bounds → TypedTree → FormTree
converted_form conversion check operand = ConvertedForm conversion (Checked operand check)

abbrev pub conversion_node : Symbol → Place → List TypeView → Symbol → Option Bounds → Conversion → Option Bounds → ReadingTree → ReadingTree
conversion_node root place types of bounds conversion check operand =
    node root place types of bounds (converted place conversion check operand.known) (map_ok (converted_form conversion check) operand.tree)

-- a membership test: its word of the frame is numbered later
abbrev pub membership_form : Bool → TypedTree × (TypedTree × TypedTree) → FormTree
membership_form is_negated operands = MembershipForm operands.0 is_negated operands.1.0 operands.1.1 0

abbrev pub membership_node : Symbol → Place → List TypeView → Symbol → Bool → ReadingTree → ReadingTree → ReadingTree → ReadingTree
membership_node root place types boolean is_negated value low high =
    node root place types boolean None (membership place is_negated value.known low.known high.known)
    (map_ok (membership_form is_negated) (both value.tree (both low.tree high.tree)))

-- what is in parentheses begins with the left one, and is no name of an object
abbrev pub regrouped : Place → Known → Known
regrouped place (Value v) = Value v
regrouped place (Fails inner) = Fails place
regrouped place (Open fault) = Open fault

abbrev pub grouped_labels : Place → Labels → Labels
grouped_labels place labels = record labels { place = place; bounds = None }

abbrev pub grouped_tree : Place → TypedTree → TypedTree
grouped_tree place (Labelled labels form) = Labelled (grouped_labels place labels) form

abbrev pub grouped : Place → ReadingTree → ReadingTree
grouped place inner = record { known = regrouped place inner.known; tree = map_ok (grouped_tree place) inner.tree }

-- an expression by itself: its labelled tree, or what is wrong with it
abbrev pub checked : ReadingTree → Result TypedTree Fault
checked r = unless (failure_in r.known) r.tree
