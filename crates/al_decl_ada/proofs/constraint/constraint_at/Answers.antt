use Rattle.std.proofs.Common.{Some, Result, ap, ◌∙◌, sym}
use Rattle.al_decl_judged.specs.declared.subtype_views.StaticRange.{StaticRange}
use Rattle.al_base_fault.specs.declared.fault.Fault.{Fault}
use Rattle.al_query.proofs.AskLemmas.{asks_none}
use Rattle.al_query.specs.Asked.{OfKnown, by_some_name}
use Rattle.al_decl_ada.specs.SubtypesAt.{constraint_at}
use Rattle.al_overload_values.specs.TermsAt.{range_names}
use Rattle.al_tree.specs.DeclarationViews.{range_model}
use Rattle.al_overload_values.specs.Surroundings.{site_model, site_units}
use Rattle.al_view.specs.declared.view.SubtypeView.{SubtypeView}
use Rattle.al_decl_ada.proofs.constraint.constraint_at.Goals as goal

pub returns-in_ok-range-in-Ok-clause-answered : goal.returns-in_ok-range-in-Ok-clause-answered
unfolding constraint_at
returns-in_ok-range-in-Ok-clause-answered g c t h =
    let answered = c.in_ok-range-in-Ok.ensures.answered t h in (
      answered.0,
      ap (λ (r : Result StaticRange Fault). Some r) answered.1
          ∙ ap (λ (m : Result SubtypeView Fault). constraint_at t (site_model c.args.site.now) m (range_model c.args.range.now)) (sym c.in-Ok.is),
    )

pub returns-in-Err-clause-answered : goal.returns-in-Err-clause-answered
unfolding constraint_at
returns-in-Err-clause-answered g c t h = (h, ap (λ (m : Result SubtypeView Fault). constraint_at t (site_model c.args.site.now) m (range_model c.args.range.now)) (sym c.in-Err.is))

pub returns-in-Err-clause-asks : goal.returns-in-Err-clause-asks
returns-in-Err-clause-asks g c = asks_none (OfKnown (site_units (site_model c.args.site.now)) by_some_name) c.args.recorder.now.log
