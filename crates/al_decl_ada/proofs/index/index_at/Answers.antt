use Rattle.std.proofs.Common.{◌≡◌}
use Rattle.al_decl_ada.proofs.Forms.{bounds_hold, marked_holds, sole_holds}
use Rattle.al_decl_ada.specs.SubtypesAt.{index_at}
use Rattle.al_tree_syntax.specs.DeclarationTrees.{DiscreteRangeTree}
use Rattle.al_overload_values.proofs.Composed.{if_ok}
use Rattle.al_overload_values.specs.Surroundings.{site_model}
use Rattle.al_decl_ada.proofs.index.index_at.Goals as goal

pub returns-in-Mark-clause-answered : goal.returns-in-Mark-clause-answered
returns-in-Mark-clause-answered g c =
    if_ok c.single_index.result _ _
    (λ checked answered t h.
    let read = answered t h in
    (read.0, sole_holds (λ (r : DiscreteRangeTree). checked ≡ index_at t (site_model c.args.site.now) c.args.unit.now r) c.in-Mark.is read.1))
    c.single_index.ensures.answered

pub returns-in-Mark-clause-asks : goal.returns-in-Mark-clause-asks
returns-in-Mark-clause-asks g c = c.single_index.ensures.asks

pub returns-in-Bounds-clause-answered : goal.returns-in-Bounds-clause-answered
returns-in-Bounds-clause-answered g c =
    if_ok c.bounds_index.result _ _
    (λ checked answered t h.
    let read = answered t h in
    (read.0, bounds_hold (λ (r : DiscreteRangeTree). checked ≡ index_at t (site_model c.args.site.now) c.args.unit.now r) c.in-Bounds.is c.deref.ensures read.1))
    c.bounds_index.ensures.answered

pub returns-in-Bounds-clause-asks : goal.returns-in-Bounds-clause-asks
returns-in-Bounds-clause-asks g c = c.bounds_index.ensures.asks

pub returns-in-MarkRange-clause-answered : goal.returns-in-MarkRange-clause-answered
returns-in-MarkRange-clause-answered g c =
    if_ok c.marked_index.result _ _
    (λ checked answered t h.
    let read = answered t h in
    (read.0, marked_holds (λ (r : DiscreteRangeTree). checked ≡ index_at t (site_model c.args.site.now) c.args.unit.now r) c.in-MarkRange.is c.deref-in-MarkRange.ensures read.1))
    c.marked_index.ensures.answered

pub returns-in-MarkRange-clause-asks : goal.returns-in-MarkRange-clause-asks
returns-in-MarkRange-clause-asks g c = c.marked_index.ensures.asks
