use Rattle.std.proofs.Common.{◌≡◌}
use Rattle.al_stmts_ranges.specs.ChoicesAt.{discrete_choice}
use Rattle.al_decl_ada.proofs.Forms.{bounds_hold, marked_holds, sole_holds}
use Rattle.al_tree_syntax.specs.DeclarationTrees.{DiscreteRangeTree}
use Rattle.al_overload_values.proofs.Composed.{if_ok}
use Rattle.al_overload_values.specs.Surroundings.{site_model}
use Rattle.al_stmts_ranges.proofs.choice.discrete_choice.Goals as goal

pub returns-in-Mark-clause-answered : goal.returns-in-Mark-clause-answered
returns-in-Mark-clause-answered g c =
    if_ok c.single_choice.result _ _
    (λ checked answered t h.
    let read = answered t h in
    (read.0, sole_holds (λ (r : DiscreteRangeTree). checked ≡ discrete_choice t (site_model c.args.site.now) c.args.found.now r) c.in-Mark.is read.1))
    c.single_choice.ensures.answered

pub returns-in-Bounds-clause-answered : goal.returns-in-Bounds-clause-answered
returns-in-Bounds-clause-answered g c =
    if_ok c.bounds_chosen.result _ _
    (λ checked answered t h.
    let read = answered t h in
    (read.0, bounds_hold (λ (r : DiscreteRangeTree). checked ≡ discrete_choice t (site_model c.args.site.now) c.args.found.now r) c.in-Bounds.is c.deref.ensures read.1))
    c.bounds_chosen.ensures.answered

pub returns-in-MarkRange-clause-answered : goal.returns-in-MarkRange-clause-answered
returns-in-MarkRange-clause-answered g c =
    if_ok c.marked_chosen.result _ _
    (λ checked answered t h.
    let read = answered t h in
    (read.0, marked_holds (λ (r : DiscreteRangeTree). checked ≡ discrete_choice t (site_model c.args.site.now) c.args.found.now r) c.in-MarkRange.is c.deref-in-MarkRange.ensures read.1))
    c.marked_chosen.ensures.answered
