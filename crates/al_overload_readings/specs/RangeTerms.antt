-- Ranges of a text (ARM 3.5, 3.6.1), by what its names denote.
use Rattle.std.specs.Prelude.{Result}
use Rattle.al_base_fault.specs.Judging.{both, map_ok}
use Rattle.al_base_fault.specs.declared.fault.Fault.{Fault}
use Rattle.al_overload_lookup.specs.Keys.{Denotations}
use Rattle.al_tree_syntax.specs.DeclarationTrees.{DiscreteRangeTree, DiscreteRangeTree as ranges, RangeTree}
use Rattle.al_overload.specs.Terms.{TermTree}
use Rattle.al_overload.specs.TermViews.{term_model}
use Rattle.al_overload_readings.specs.Texts.{mark_of_text, one_range, read, term_of}
use Rattle.al_overload_readings.specs.declared.range.RangeTerm.{RangeTerm}
use Rattle.al_overload_readings.specs.declared.range.RangeTerm.TheVariants as variants
use Rattle.al_view.specs.declared.view.SubtypeView.{SubtypeView}

pub data RangeTermTree : Type 0 where
  -- a mark or a Range attribute
  WholeRange : SubtypeView → RangeTermTree
  -- L .. H
  BoundsRange : TermTree → TermTree → RangeTermTree
  -- mark range L .. H
  MarkedRange : SubtypeView → TermTree → TermTree → RangeTermTree

abbrev pub range_model : RangeTerm → RangeTermTree
range_model (variants.Whole s) = WholeRange s
range_model (variants.Bounds low high) = BoundsRange (term_model low) (term_model high)
range_model (variants.Marked s low high) = MarkedRange s (term_model low) (term_model high)

abbrev pub bounds_of : Denotations → RangeTree → Result (TermTree × TermTree) Fault
bounds_of d r = both (term_of d r.low) (term_of d r.high)

unfoldable pub between : Result (TermTree × TermTree) Fault → Result RangeTermTree Fault
between bounds = map_ok (λ (b : TermTree × TermTree). BoundsRange b.0 b.1) bounds

unfoldable pub marked : Result SubtypeView Fault → Result (TermTree × TermTree) Fault → Result RangeTermTree Fault
marked mark bounds = map_ok (λ (x : SubtypeView × (TermTree × TermTree)). MarkedRange x.0 x.1.0 x.1.1) (both mark bounds)

-- the range as it is written
abbrev pub range_of : Denotations → DiscreteRangeTree → Result RangeTermTree Fault
range_of d (ranges.SoleMark x) = map_ok WholeRange (one_range x (read d x))
range_of d (ranges.Bounds r) = between (bounds_of d r)
range_of d (ranges.MarkRange mark r) = marked (mark_of_text d mark) (bounds_of d r)
