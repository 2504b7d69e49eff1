use Rattle.std.proofs.Common.{Option, Result, ap, ◌∙◌}
use Rattle.al_base.specs.declared.place.Place.{Place}
use Rattle.al_base_fault.specs.Judging.{both, next, map_ok}
use Rattle.al_base_fault.specs.declared.fault.Fault.{Fault}
use Rattle.al_overload_lookup.specs.Places.{first_place}
use Rattle.al_stmts_ranges.specs.LoopsAt.{discrete, marked_model}
use Rattle.al_stmts_ranges.proofs.Seen.{seen_both}
use Rattle.al_overload_values.specs.TextsAt.{With, terms_with_model}
use Rattle.al_overload.specs.Terms.{TermTree}
use Rattle.al_overload.specs.declared.heads_term.Term.{Term}
use Rattle.al_overload_values.proofs.Composed.{asks_more}
use Rattle.al_overload_values.specs.TermsAt.{mark_at}
use Rattle.al_tree.specs.ExpressionViews.{expression_model}
use Rattle.al_overload_values.specs.Surroundings.{site_model, site_units}
use Rattle.al_view.specs.declared.types.Bounds.{Bounds}
use Rattle.al_view.specs.declared.view.SubtypeView.{SubtypeView}
use Rattle.al_stmts_ranges.proofs.loop_range.marked_bounds.Goals as goal

pub returns-clause-answered : goal.returns-clause-answered
returns-clause-answered g c t h =
    let later = c.in_ok-bounds.ensures.answered t h in
    let first = c.in_ok-mark.ensures.answered t later.0 in
    let s = site_model c.args.site.now in
    let x = expression_model c.args.mark.now in (
      first.0,
      ap (λ (r : Result ((SubtypeView × Bounds) × ((Term × Term) × Option Fault)) Fault). map_ok marked_model r) c.both.ensures
          ∙ seen_both terms_with_model c.discrete_mark.result c.in_ok-bounds.bounds
          ∙ ap (λ (m : Result (SubtypeView × Bounds) Fault). both m (map_ok terms_with_model c.in_ok-bounds.bounds))
          (c.discrete_mark.ensures ∙ ap (λ (p : Place). next c.in_ok-mark.mark (discrete p)) c.first_place-place.ensures ∙ ap (λ (m : Result SubtypeView Fault). next m (discrete (first_place x))) first.1)
          ∙ ap (λ (b : Result (With (TermTree × TermTree)) Fault). both (next (mark_at t s.place s.packages x) (discrete (first_place x))) b) later.1,
    )

pub returns-clause-asks : goal.returns-clause-asks
returns-clause-asks g c =
    asks_more (site_units (site_model c.args.site.now)) _ _ _ c.in_ok-mark.ensures.asks c.in_ok-bounds.ensures.asks
