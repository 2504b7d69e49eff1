-- Choices of case statements at their places (ARM 3.8.1, 5.4), wanted at the selector's type. Their names are looked up by a table of answers.
use Rattle.std.specs.Prelude.{ℕ, pos, negsuc, List, [], Option, Some, None, Result, Ok, Err, option_map, unwrap_or, if◌then◌else◌}
use Rattle.al_base.specs.declared.place.Place.{Place}
use Rattle.al_stmts.specs.declared.choice.Choice.{Choice}
use Rattle.al_stmts.specs.declared.choice.Choice.TheVariants as choices
use Rattle.al_decl_judged.specs.TypeSubtypes.{subtype_of}
use Rattle.al_decl_judged.specs.declared.subtype_views.StaticRange.{StaticRange}
use Rattle.al_decl_judged.specs.StaticPieces.{static_of}
use Rattle.al_overload.specs.declared.everywhere.Predefined.{Predefined}
use Rattle.al_base_fault.specs.Judging.{both, next, map_ok, unless}
use Rattle.al_base_fault.specs.declared.fault.Fault.{Fault}
use Rattle.al_overload_lookup.specs.Places.{first_place}
use Rattle.al_overload_nodes.specs.Static.{static_term_checked}
use Rattle.al_overload_nodes.specs.Ranges.{FoundTree}
use Rattle.al_overload_nodes.specs.declared.range.FoundType.{FoundType}
use Rattle.al_overload.specs.Types.{value_type}
use Rattle.al_overload.specs.declared.context.Context.{Context}
use Rattle.al_overload.specs.declared.context.Context.TheVariants as contexts
use Rattle.al_overload.specs.PickedTypes.{positions_in, range_in}
use Rattle.al_overload_values.specs.TextsAt.{With, read_with_at}
use Rattle.al_query.specs.Reads.{Table}
use Rattle.al_overload_readings.specs.Readings.{ReadTree, range_read, valued}
use Rattle.al_decl_ada.specs.SubtypesAt.{discrete_names, static_at}
use Rattle.al_tree_syntax.specs.DeclarationTrees.{DiscreteRangeTree, DiscreteRangeTree as ranges, RangeTree}
use Rattle.al_tree_syntax.specs.StatementTrees.{ChoiceTree}
use Rattle.al_tree_syntax.specs.StatementTrees.ChoiceTree.{OthersChoice, RangeChoice}
use Rattle.al_tree_syntax.specs.ExpressionTrees.{ExpressionTree}
use Rattle.al_overload.specs.Terms.{TermTree}
use Rattle.al_overload_values.specs.TermsAt.{mark_at}
use Rattle.al_view_typed.specs.ExpressionTrees.{TypedTree}
use Rattle.al_overload_values.specs.Surroundings.{Surroundings}
use Rattle.al_overload_values.specs.ValuesAt.{selector_judged_at}
use Rattle.al_view.specs.Symbols.{same_symbol}
use Rattle.al_view.specs.declared.symbol.Symbol.{Symbol}
use Rattle.al_view.specs.declared.types.Bounds.{Bounds}
use Rattle.al_view.specs.declared.types.StaticValue.{StaticValue}
use Rattle.al_view.specs.declared.view.SubtypeView.{SubtypeView}

-- all values of a type, as of a selector: the positions of an enumeration, all words of an integer type (ARM 5.4(8, 9))
abbrev pub all_words : Bounds
all_words = record { low = negsuc 9223372036854775807; high = pos 9223372036854775807 }

abbrev pub all_values : FoundType → Bounds
all_values found = unwrap_or (positions_in found.types found.of) all_words

-- the range of the whole type of a selector that was checked; of a faulty one nothing is asked
abbrev pub values_of : Result FoundTree Fault → Bounds
values_of (Ok x) = all_values x.found
values_of (Err f) = all_words

abbrev pub whole_at : Table → Surroundings → ExpressionTree → Bounds
whole_at t s selector = values_of (selector_judged_at t s selector)

-- what a choice of a selector of this type is wanted as
abbrev pub choice_context : FoundType → Context
choice_context found = contexts.ChoiceOf (value_type found.types found.of)

-- one value, which must be static; before that is asked, it must be right, what is in the prefixes of its attributes too
abbrev pub one_value : StaticValue → Choice
one_value v = choices.Range (record { low = v.word; high = v.word })

abbrev pub value_choice : Predefined → Option Symbol → FoundType → Option Fault → TermTree → Result Choice Fault
value_choice p own found fault term =
    next (unless fault (static_term_checked p own (choice_context found) found.types fault term)) (λ (x : TypedTree). map_ok one_value (static_of x))

-- a subtype; one of another type than the selector's is none of its choices
abbrev pub bounds_choice : Option Bounds → Choice
bounds_choice (Some b) = choices.Range b
bounds_choice None = choices.OfOtherType

unfoldable pub mark_choice : FoundType → SubtypeView → Choice
mark_choice found mark = if same_symbol mark.subtype.base found.of then bounds_choice (range_in mark.types mark.subtype) else choices.OfOtherType

-- what is alone: a mark or a Range attribute, or else a value
abbrev pub part_choice : Predefined → Option Symbol → FoundType → With ReadTree → Option Choice → Result Choice Fault
part_choice p own found r (Some c) = unless r.1 (Ok c)
part_choice p own found r None = next (valued r.0) (value_choice p own found r.1)

abbrev pub range_part : FoundType → ReadTree → Option Choice
range_part found r = option_map (mark_choice found) (range_read r)

abbrev pub read_choice : Predefined → Option Symbol → FoundType → With ReadTree → Result Choice Fault
read_choice p own found r = part_choice p own found r (range_part found r.0)

-- two bounds, which must be static
abbrev pub static_choice : Table → Surroundings → FoundType → RangeTree → Result StaticRange Fault
static_choice t s found r = static_at t s (choice_context found) found.types r

abbrev pub range_choice : StaticRange → Choice
range_choice r = choices.Range r.bounds

abbrev pub fitted_choice : Result SubtypeView Fault → Result Choice Fault
fitted_choice subtype = map_ok (λ (m : SubtypeView). bounds_choice m.subtype.bounds) subtype

-- two bounds after a mark at this place: E305 if they aren't in it
unfoldable pub marked_choice : FoundType → Place → SubtypeView × StaticRange → Result Choice Fault
marked_choice found place x =
    if same_symbol x.0.subtype.base found.of then fitted_choice (subtype_of x.0 place (Some x.1)) else Ok choices.OfOtherType

abbrev pub discrete_choice : Table → Surroundings → FoundType → DiscreteRangeTree → Result Choice Fault
discrete_choice t s found (ranges.SoleMark x) = next (read_with_at t s.place s.packages s.predefined s.own x) (read_choice s.predefined s.own found)
discrete_choice t s found (ranges.Bounds r) = map_ok range_choice (static_choice t s found r)
discrete_choice t s found (ranges.MarkRange mark r) =
    next (both (mark_at t s.place s.packages mark) (static_choice t s found r)) (marked_choice found (first_place mark))

abbrev pub choice_at : Table → Surroundings → FoundType → ChoiceTree → Result Choice Fault
choice_at t s found OthersChoice = Ok choices.Others
choice_at t s found (RangeChoice r) = discrete_choice t s found r

-- a choice of the selector that is there
abbrev pub selected_at : Table → Surroundings → ExpressionTree → ChoiceTree → Result Choice Fault
selected_at t s selector c = next (selector_judged_at t s selector) (λ (x : FoundTree). choice_at t s x.found c)

-- the names that are asked for
abbrev pub choice_names : ChoiceTree → List (List ℕ)
choice_names OthersChoice = []
choice_names (RangeChoice r) = discrete_names r
