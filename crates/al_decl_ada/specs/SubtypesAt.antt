-- Subtype indications and index subtypes at their places (ARM 3.2.2, 3.6). Their names are looked up by a table of answers.
use Rattle.std.specs.Prelude.{ℕ, List, [], ◌++◌, Option, Some, None, Result, Ok, Err}
use Rattle.al_base.specs.declared.place.Place.{Place}
use Rattle.al_base.specs.declared.unit_key.UnitKey.{UnitKey}
use Rattle.al_decl_judged.specs.declared.subtype_views.StaticRange.{StaticRange}
use Rattle.al_decl_judged.specs.Indications.{index_of_bounds, index_of_mark, indication}
use Rattle.al_decl_judged.specs.StaticPieces.{static_range}
use Rattle.al_base_fault.specs.Judging.{next}
use Rattle.al_base_fault.specs.declared.fault.Fault.{Fault}
use Rattle.al_overload_lookup.specs.Places.{first_place, place_of}
use Rattle.al_overload_nodes.specs.Ranges.{PairTree}
use Rattle.al_overload.specs.declared.context.Context.{Context}
use Rattle.al_overload.specs.declared.context.Context.TheVariants as contexts
use Rattle.al_overload_values.specs.TextsAt.{range_with_at}
use Rattle.al_query.specs.Reads.{Table}
use Rattle.al_tree_syntax.specs.DeclarationTrees.{DiscreteRangeTree, DiscreteRangeTree as ranges, RangeTree, SubtypeIndicationTree}
use Rattle.al_tree_syntax.specs.ExpressionTrees.{ExpressionTree}
use Rattle.al_overload_values.specs.CompoundNames.{name_text}
use Rattle.al_overload_values.specs.TermsAt.{mark_at, range_names, text_names}
use Rattle.al_overload_nodes.specs.Leaves.{mark_type}
use Rattle.al_overload_values.specs.Surroundings.{Surroundings}
use Rattle.al_overload_values.specs.ValuesAt.{static_pair_at}
use Rattle.al_view.specs.declared.types.TypeView.{TypeView}
use Rattle.al_view.specs.declared.view.SubtypeView.{SubtypeView}
use Rattle.al_decl_ada.specs.Complete.{completed}

-- a range of static bounds: E304 at the first that isn't static
abbrev pub static_pair : PairTree → Result StaticRange Fault
static_pair pair = static_range pair.low pair.high

abbrev pub static_at : Table → Surroundings → Context → List TypeView → RangeTree → Result StaticRange Fault
static_at t s context types r = next (static_pair_at t s context types r) static_pair

-- the constraint after a mark, which is of the mark's type; it isn't asked for after a mark that is faulty
unfoldable pub constraint_at : Table → Surroundings → Result SubtypeView Fault → RangeTree → Option (Result StaticRange Fault)
constraint_at t s (Ok mark) r = Some (static_at t s (contexts.BoundOf (mark_type mark)) mark.types r)
constraint_at t s (Err f) r = None

-- a mark with a constraint or without
abbrev pub constrained_at : Table → Surroundings → Place → Result SubtypeView Fault → Option RangeTree → Result SubtypeView Fault
constrained_at t s place mark None = indication place mark None
constrained_at t s place mark (Some r) = indication place mark (constraint_at t s mark r)

-- in a unit; its mark wants a type that is complete there
abbrev pub indication_at : Table → Surroundings → UnitKey → SubtypeIndicationTree → Result SubtypeView Fault
indication_at t s unit i =
    constrained_at t s (place_of i.mark.first) (completed unit (place_of i.mark.first) (mark_at t s.place s.packages (name_text i.mark))) i.constraint

-- the subtype of an index: a mark or a Range attribute alone
abbrev pub index_of_single : Table → Surroundings → UnitKey → ExpressionTree → Result SubtypeView Fault
index_of_single t s unit x = index_of_mark (first_place x) (completed unit (first_place x) (range_with_at t s.place s.packages s.predefined s.own x)) None

-- a mark with a constraint
abbrev pub index_of_marked : Table → Surroundings → Place → Result SubtypeView Fault → RangeTree → Result SubtypeView Fault
index_of_marked t s place mark r = index_of_mark place mark (constraint_at t s mark r)

-- two bounds, which have their type by themselves
abbrev pub index_of_pair : PairTree → Result SubtypeView Fault
index_of_pair pair = index_of_bounds pair.range.of pair.range.types (static_pair pair)

abbrev pub index_at : Table → Surroundings → UnitKey → DiscreteRangeTree → Result SubtypeView Fault
index_at t s unit (ranges.SoleMark x) = index_of_single t s unit x
index_at t s unit (ranges.MarkRange mark r) =
    index_of_marked t s (first_place mark) (completed unit (first_place mark) (mark_at t s.place s.packages mark)) r
index_at t s unit (ranges.Bounds r) = next (static_pair_at t s contexts.PairOfBounds [] r) index_of_pair

-- ---- which names are asked for

abbrev pub constraint_names : Option RangeTree → List (List ℕ)
constraint_names (Some r) = range_names r
constraint_names None = []

abbrev pub indication_names : SubtypeIndicationTree → List (List ℕ)
indication_names i = text_names (name_text i.mark) ++ constraint_names i.constraint

abbrev pub discrete_names : DiscreteRangeTree → List (List ℕ)
discrete_names (ranges.SoleMark x) = text_names x
discrete_names (ranges.MarkRange mark r) = text_names mark ++ range_names r
discrete_names (ranges.Bounds r) = range_names r
