use Rattle.std.proofs.Common.{Result, ap, ◌∙◌}
use Rattle.al_base.specs.declared.place.Place.{Place}
use Rattle.al_base_fault.specs.declared.fault.Fault.{Fault}
use Rattle.al_overload_lookup.specs.Places.{first_place}
use Rattle.al_decl_ada.specs.Complete.{completed}
use Rattle.al_decl_ada.specs.SubtypesAt.{index_of_marked}
use Rattle.al_overload_values.proofs.Composed.{if_ok}
use Rattle.al_query.proofs.AskLemmas.{asks_then}
use Rattle.al_query.specs.Asked.{OfKnown, by_some_name}
use Rattle.al_tree.specs.DeclarationViews.{range_model}
use Rattle.al_tree.specs.ExpressionViews.{expression_model}
use Rattle.al_overload_values.specs.Surroundings.{site_model, site_units}
use Rattle.al_view.specs.declared.view.SubtypeView.{SubtypeView}
use Rattle.al_decl_ada.proofs.index.marked_index.Goals as goal

pub returns-clause-answered : goal.returns-clause-answered
returns-clause-answered g c =
    if_ok c.constrained_index-subtype.result _ _
    (λ checked answered t h.
    let later = answered t h in
    let first = c.in_ok-mark.ensures.answered t later.0 in (
      first.0,
      later.1
          ∙ ap (λ (p : Place). index_of_marked t (site_model c.args.site.now) p c.completed-mark.result (range_model c.args.range.now)) c.first_place-place.ensures
          ∙ ap (λ (m : Result SubtypeView Fault). index_of_marked t (site_model c.args.site.now) (first_place (expression_model c.args.mark.now)) m (range_model c.args.range.now))
          (c.completed-mark.ensures ∙ ap (λ (p : Place). completed c.args.unit.now p c.in_ok-mark.mark) c.first_place-place.ensures ∙ ap (completed c.args.unit.now (first_place (expression_model c.args.mark.now))) first.1),
    ))
    c.constrained_index-subtype.ensures.answered

pub returns-clause-asks : goal.returns-clause-asks
returns-clause-asks g c =
    if_ok c.constrained_index-subtype.result _ _
    (λ checked asks. asks_then (OfKnown (site_units (site_model c.args.site.now)) by_some_name) c.args.recorder.now.log c.mark_at.new.recorder.log c.constrained_index-subtype.new.recorder.log c.in_ok-mark.ensures.asks asks)
    c.constrained_index-subtype.ensures.asks
