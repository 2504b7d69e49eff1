-- What pairs of bounds and selectors are, with the types that they have by themselves (ARM 3.5, 3.6(18), 5.4(4), 5.5).
use Rattle.std.specs.Prelude.{ℕ, List, [], Option, None, unwrap_or, Result}
use Rattle.al_overload.specs.Labelling.{Label}
use Rattle.al_base_fault.specs.Judging.{both, next, map_ok}
use Rattle.al_base_fault.specs.declared.fault.Fault.{Fault}
use Rattle.al_overload.specs.declared.context.Context.{Context}
use Rattle.al_overload.specs.declared.context.Context.TheVariants as contexts
use Rattle.al_overload.specs.Places.{first_place}
use Rattle.al_overload.specs.Terms.{TermTree}
use Rattle.al_view_typed.specs.ExpressionTrees.{TypedTree}
use Rattle.al_view.specs.declared.symbol.Symbol.{Symbol}
use Rattle.al_view.specs.declared.types.TypeView.{TypeView}
use Rattle.al_overload.specs.Interpreting.{bounds_interpreted, interpreted}
use Rattle.al_overload.specs.declared.everywhere.Predefined.{Predefined}
use Rattle.al_overload_nodes.specs.Nodes.{ReadingTree, checked}
use Rattle.al_overload_nodes.specs.Contexts.{stands_at}
use Rattle.al_overload_nodes.specs.Readings.{operand_read, reading}
use Rattle.al_overload_nodes.specs.Static.{checked_as, expected_after}
use Rattle.al_overload_nodes.specs.declared.staticness.Staticness.{Staticness}
use Rattle.al_overload_nodes.specs.declared.staticness.Staticness.TheVariants.{Any}
use Rattle.al_overload_nodes.specs.FromAnswers.{DeterminedType, among, everywhere, pair_type, range_type, type_told, types_in}
use Rattle.al_overload_nodes.specs.declared.range.FoundType.{FoundType}

-- a type with the types among which it is: nothing if every unit has it
abbrev pub found_type : DeterminedType → FoundType
found_type t = record { of = t.of; types = types_in [] t }

-- two bounds, with the type of their range
pub record PairTree : Type 0 where
  pub low : TypedTree
  pub high : TypedTree
  pub range : FoundType

abbrev pub pair_of : FoundType → TypedTree × TypedTree → PairTree
pair_of range bounds = record { low = bounds.0; high = bounds.1; range = range }

-- a bound at the type of the pair
abbrev pub bound_at : Predefined → Option Symbol → List TypeView → TermTree → ℕ → TermTree → Label → DeterminedType → ReadingTree
bound_at p own types low k bound label t = operand_read p own (first_place low) k bound label (types_in types t) t.of

abbrev pub pair_at : Predefined → Option Symbol → Staticness → List TypeView → TermTree → TermTree → Label → DeterminedType → Result PairTree Fault
pair_at p own expected types low high label t =
    map_ok (pair_of (found_type (range_type p t)))
    (both (checked_as expected (first_place low) (bound_at p own types low 0 low label t))
    (checked_as expected (first_place high) (bound_at p own types low 1 high label t)))

abbrev pub pair_read : Predefined → Option Symbol → Staticness → List TypeView → Symbol → TermTree → TermTree → Label → Result PairTree Fault
pair_read p own expected types at low high label = pair_at p own expected types low high label (pair_type p (among types at) low high label)

-- A pair of bounds: E402 or E403 at the first token of the low one, if the two have no interpretation, or several; else the
-- first fault in them.
abbrev pub bounds_checked_as : Predefined → Option Symbol → Staticness → Context → List TypeView → TermTree → TermTree → Result PairTree Fault
bounds_checked_as p own expected context types low high =
    next (bounds_interpreted p context low high) (pair_read p own expected types (stands_at p context) low high)

abbrev pub bounds_checked : Predefined → Option Symbol → Context → List TypeView → TermTree → TermTree → Result PairTree Fault
bounds_checked p own context types low high = bounds_checked_as p own Any context types low high

-- a pair of bounds that must be static, given what was found in the prefixes of their attributes: E304 at each that isn't
abbrev pub static_bounds_checked : Predefined → Option Symbol → Context → List TypeView → Option Fault → TermTree → TermTree → Result PairTree Fault
static_bounds_checked p own context types found low high = bounds_checked_as p own (expected_after (first_place low) found) context types low high

-- an expression, with the type that it has by itself
pub record FoundTree : Type 0 where
  pub value : TypedTree
  pub found : FoundType

abbrev pub found_of : FoundType → TypedTree → FoundTree
found_of found value = record { value = value; found = found }

abbrev pub selector_at : Predefined → Option Symbol → TermTree → Label → DeterminedType → Result FoundTree Fault
selector_at p own term label t = map_ok (found_of (found_type t)) (checked (reading p own term label (types_in [] t) t.of))

abbrev pub selector_read : Predefined → Option Symbol → TermTree → Label → Result FoundTree Fault
selector_read p own term label = selector_at p own term label (unwrap_or (type_told p term label) (everywhere p.root))

-- The selector of a case statement, which is of the root type if it is of numbers alone.
abbrev pub selector_checked : Predefined → Option Symbol → TermTree → Result FoundTree Fault
selector_checked p own term = next (interpreted p contexts.Selector None term) (selector_read p own term)
