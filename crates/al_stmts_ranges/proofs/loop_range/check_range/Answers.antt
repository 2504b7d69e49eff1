use Rattle.std.proofs.Common.{◌≡◌}
use Rattle.al_base_fault.specs.Judging.{map_ok}
use Rattle.al_stmts_ranges.specs.LoopsAt.{found_range_model, loop_range_checked}
use Rattle.al_decl_ada.proofs.Forms.{bounds_hold, marked_holds, sole_holds}
use Rattle.al_tree_syntax.specs.DeclarationTrees.{DiscreteRangeTree}
use Rattle.al_overload_values.proofs.Composed.{if_ok}
use Rattle.al_overload_values.specs.Surroundings.{site_model}
use Rattle.al_stmts_ranges.proofs.loop_range.check_range.Goals as goal

pub returns-in-Mark-clause-answered : goal.returns-in-Mark-clause-answered
returns-in-Mark-clause-answered g c =
    if_ok c.single_range.result _ _
    (λ checked answered t h.
    let read = answered t h in
    (read.0, sole_holds (λ (r : DiscreteRangeTree). map_ok found_range_model checked ≡ loop_range_checked t (site_model c.args.site.now) r) c.in-Mark.is read.1))
    c.single_range.ensures.answered

pub returns-in-Bounds-clause-answered : goal.returns-in-Bounds-clause-answered
returns-in-Bounds-clause-answered g c =
    if_ok c.bounds_range.result _ _
    (λ checked answered t h.
    let read = answered t h in
    (read.0, bounds_hold (λ (r : DiscreteRangeTree). map_ok found_range_model checked ≡ loop_range_checked t (site_model c.args.site.now) r) c.in-Bounds.is c.deref.ensures read.1))
    c.bounds_range.ensures.answered

pub returns-in-MarkRange-clause-answered : goal.returns-in-MarkRange-clause-answered
returns-in-MarkRange-clause-answered g c =
    if_ok c.marked_range.result _ _
    (λ checked answered t h.
    let read = answered t h in
    (read.0, marked_holds (λ (r : DiscreteRangeTree). map_ok found_range_model checked ≡ loop_range_checked t (site_model c.args.site.now) r) c.in-MarkRange.is c.deref-in-MarkRange.ensures read.1))
    c.marked_range.ensures.answered
