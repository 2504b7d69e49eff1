-- Ranges of for loops at their places (ARM 5.5, 3.6.1), with the words of their temporaries. Their names are looked up by a table of answers.
use Rattle.std.specs.Prelude.{ℕ, [], Option, Some, None, Result, Ok, Err}
use Rattle.al_base.specs.declared.place.Place.{Place}
use Rattle.al_decl_judged.specs.TypeSubtypes.{scalar_bounds, subtype_bounds}
use Rattle.al_overload.specs.declared.everywhere.Predefined.{Predefined}
use Rattle.al_base_fault.specs.Judging.{both, next, map_ok, unless}
use Rattle.al_base_fault.specs.declared.fault.Fault.{Fault}
use Rattle.al_overload_lookup.specs.Places.{first_place}
use Rattle.al_overload_nodes.specs.Ranges.{PairTree, bounds_checked}
use Rattle.al_overload_nodes.specs.declared.range.FoundType.{FoundType}
use Rattle.al_overload.specs.declared.context.Context.TheVariants as contexts
use Rattle.al_overload_values.specs.TextsAt.{With, bounds_with_at, range_with_at, terms_with_model}
use Rattle.al_query.specs.Reads.{Table}
use Rattle.al_overload_slots.specs.Slots.{after, numbered}
use Rattle.al_stmts.specs.LoopForms.{RangeTree, range_of_mark, range_model}
use Rattle.al_tree_syntax.specs.DeclarationTrees.{DiscreteRangeTree, DiscreteRangeTree as ranges}
use Rattle.al_overload.specs.Terms.{TermTree}
use Rattle.al_overload.specs.declared.heads_term.Term.{Term}
use Rattle.al_overload_values.specs.TermsAt.{mark_at}
use Rattle.al_overload_nodes.specs.Leaves.{mark_type}
use Rattle.al_overload_values.specs.Surroundings.{Surroundings}
use Rattle.al_overload_values.specs.ValuesAt.{pair_judged_at}
use Rattle.al_overload_values.specs.Words.{Worded}
use Rattle.al_view.specs.declared.symbol.Symbol.{Symbol}
use Rattle.al_view.specs.declared.types.Bounds.{Bounds}
use Rattle.al_view.specs.declared.view.SubtypeView.{SubtypeView}
use Rattle.al_stmts_ranges.specs.declared.loop_range.FoundRange.{FoundRange}

-- the values of a loop's parameter, with its type
pub record FoundRangeTree : Type 0 where
  pub range : RangeTree
  pub found : FoundType

abbrev pub found_range_model : FoundRange → FoundRangeTree
found_range_model r = record { range = range_model r.range; found = r.found }

-- a mark that is of a discrete type, with its range; else E404 at the mark
abbrev pub discrete : Place → SubtypeView → Result (SubtypeView × Bounds) Fault
discrete place mark = map_ok (λ (b : Bounds). (mark, b)) (scalar_bounds place (subtype_bounds mark.types mark.subtype))

-- all its values
abbrev pub whole : Place → SubtypeView × Bounds → FoundRangeTree
whole place x = record { range = range_of_mark place x.0.subtype.base x.1; found = record { of = x.0.subtype.base; types = x.0.types } }

abbrev pub whole_range : Place → SubtypeView → Result FoundRangeTree Fault
whole_range place mark = map_ok (whole place) (discrete place mark)

-- a mark with its range, and the terms of the bounds after it with what is wrong in the prefixes of their attributes
abbrev pub marked_model : (SubtypeView × Bounds) × ((Term × Term) × Option Fault) → (SubtypeView × Bounds) × With (TermTree × TermTree)
marked_model x = (x.0, terms_with_model x.1)

-- from one bound to another, after a mark with this range or by themselves
abbrev pub between : Option Bounds → PairTree → FoundRangeTree
between mark pair = record { range = record { low = pair.low; high = pair.high; mark = mark }; found = pair.range }

-- two bounds after a mark
abbrev pub after_mark : Predefined → Option Symbol → (SubtypeView × Bounds) × With (TermTree × TermTree) → Result FoundRangeTree Fault
after_mark p own x =
    map_ok (between (Some x.0.1)) (unless x.1.1 (bounds_checked p own (contexts.BoundOf (mark_type x.0.0)) x.0.0.types x.1.0.0 x.1.0.1))

-- The range of a loop: a mark or a Range attribute; two bounds, as one context; or a mark with two bounds, which are compared with it when it
-- runs. E401 and E404 of all names in it come first.
abbrev pub loop_range_checked : Table → Surroundings → DiscreteRangeTree → Result FoundRangeTree Fault
loop_range_checked t s (ranges.SoleMark x) = next (range_with_at t s.place s.packages s.predefined s.own x) (whole_range (first_place x))
loop_range_checked t s (ranges.Bounds r) = map_ok (between None) (pair_judged_at t s contexts.PairOfBounds [] r)
loop_range_checked t s (ranges.MarkRange mark r) =
    next (both (next (mark_at t s.place s.packages mark) (discrete (first_place mark))) (bounds_with_at t s.place s.packages s.predefined s.own r)) (after_mark s.predefined s.own)

-- the words of the low bound's temporaries come first
unfoldable pub range_with_words : ℕ → Result FoundRangeTree Fault → Worded FoundRangeTree
range_with_words word (Ok x) = (
  after (after word x.range.low) x.range.high,
  Ok (record { range = record { low = numbered word x.range.low; high = numbered (after word x.range.low) x.range.high; mark = x.range.mark }; found = x.found }),
)
range_with_words word (Err f) = (word, Err f)

abbrev pub loop_range_at : Table → Surroundings → DiscreteRangeTree → ℕ → Worded FoundRangeTree
loop_range_at t s r word = range_with_words word (loop_range_checked t s r)
