use Rattle.std.proofs.Common.{Result, ap, ◌∙◌}
use Rattle.al_base.specs.declared.place.Place.{Place}
use Rattle.al_decl_judged.specs.declared.subtype_views.StaticRange.{StaticRange}
use Rattle.al_base_fault.specs.Judging.{next}
use Rattle.al_base_fault.specs.declared.fault.Fault.{Fault}
use Rattle.al_overload_lookup.specs.Places.{first_place}
use Rattle.al_stmts_ranges.specs.ChoicesAt.{marked_choice}
use Rattle.al_tree.specs.ExpressionViews.{expression_model}
use Rattle.al_view.specs.declared.view.SubtypeView.{SubtypeView}
use Rattle.al_stmts_ranges.proofs.choice.marked_chosen.Goals as goal

pub returns-clause-answered : goal.returns-clause-answered
returns-clause-answered g c t h =
    let answered = c.in_ok-parts.ensures.answered t h in (
      answered.0,
      c.in_ok-choice.ensures
          ∙ ap (λ (p : Place). next c.in_ok-parts.parts (marked_choice c.args.found.now p)) c.first_place.ensures
          ∙ ap (λ (r : Result (SubtypeView × StaticRange) Fault). next r (marked_choice c.args.found.now (first_place (expression_model c.args.mark.now)))) answered.1,
    )
