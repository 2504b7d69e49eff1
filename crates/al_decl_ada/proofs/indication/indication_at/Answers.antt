use Rattle.std.proofs.Common.{◌≡◌, None, Some, Option, Result, ap, subst, ◌∙◌}
use Rattle.al_decl_judged.specs.Indications.{indication}
use Rattle.al_base_fault.specs.declared.fault.Fault.{Fault}
use Rattle.al_query.proofs.AskLemmas.{asks_then}
use Rattle.al_query.specs.Asked.{OfKnown, by_some_name}
use Rattle.al_decl_ada.proofs.Forms.{constrained_holds, unconstrained_holds}
use Rattle.al_decl_ada.specs.Complete.{completed}
use Rattle.al_decl_ada.specs.SubtypesAt.{constrained_at}
use Rattle.al_tree_syntax.specs.DeclarationTrees.{RangeTree}
use Rattle.al_overload_values.proofs.Composed.{if_ok}
use Rattle.al_overload_values.specs.CompoundNames.{name_text}
use Rattle.al_overload_values.specs.TermsAt.{mark_at}
use Rattle.al_tree.specs.DeclarationViews.{compound_model, range_model}
use Rattle.al_overload_values.specs.Surroundings.{site_model, site_units}
use Rattle.al_view.specs.declared.view.SubtypeView.{SubtypeView}
use Rattle.al_decl_ada.proofs.indication.indication_at.Goals as goal

pub returns-in-None-clause-answered : goal.returns-in-None-clause-answered
returns-in-None-clause-answered g c =
    if_ok c.indication-subtype.result _ _
    (λ checked is t h.
    let first = c.in_ok-mark.ensures.answered t h in
    let s = site_model c.args.site.now in
    let place = c.args.of.now.mark.first.place in (
      first.0,
      unconstrained_holds (λ (o : Option RangeTree). checked ≡ constrained_at t s place (completed c.args.unit.now place (mark_at t s.place s.packages (name_text (compound_model c.args.of.now.mark)))) o) c.in-None.is
          (is ∙ ap (λ (m : Result SubtypeView Fault). indication place m None) (c.completed-mark.ensures ∙ ap (completed c.args.unit.now place) first.1)),
    ))
    c.indication-subtype.ensures

pub returns-in-None-clause-asks : goal.returns-in-None-clause-asks
returns-in-None-clause-asks g c = if_ok c.indication-subtype.result _ _ (λ checked is. c.in_ok-mark.ensures.asks) c.indication-subtype.ensures

pub returns-in-Some-clause-answered : goal.returns-in-Some-clause-answered
returns-in-Some-clause-answered g c =
    if_ok c.constrained-subtype.result _ _
    (λ checked answered t h.
    let later = answered t h in
    let first = c.in_ok-mark.ensures.answered t later.0 in
    let s = site_model c.args.site.now in
    let place = c.args.of.now.mark.first.place in (
      first.0,
      constrained_holds (λ (o : Option RangeTree). checked ≡ constrained_at t s place (completed c.args.unit.now place (mark_at t s.place s.packages (name_text (compound_model c.args.of.now.mark)))) o) c.in-Some.is c.deref.ensures
          (subst (λ (m : Result SubtypeView Fault). checked ≡ constrained_at t s place m (Some (range_model c.deref.result.now))) (c.completed-mark.ensures ∙ ap (completed c.args.unit.now place) first.1) later.1),
    ))
    c.constrained-subtype.ensures.answered

pub returns-in-Some-clause-asks : goal.returns-in-Some-clause-asks
returns-in-Some-clause-asks g c =
    if_ok c.constrained-subtype.result _ _
    (λ checked asks. asks_then (OfKnown (site_units (site_model c.args.site.now)) by_some_name) c.args.recorder.now.log c.name_mark_at.new.recorder.log c.constrained-subtype.new.recorder.log c.in_ok-mark.ensures.asks asks)
    c.constrained-subtype.ensures.asks
