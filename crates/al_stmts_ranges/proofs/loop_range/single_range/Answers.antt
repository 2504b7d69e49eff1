use Rattle.std.proofs.Common.{Result, ap, ◌∙◌}
use Rattle.al_base.specs.declared.place.Place.{Place}
use Rattle.al_base_fault.specs.Judging.{next}
use Rattle.al_base_fault.specs.declared.fault.Fault.{Fault}
use Rattle.al_overload_lookup.specs.Places.{first_place}
use Rattle.al_stmts_ranges.specs.LoopsAt.{whole_range}
use Rattle.al_tree.specs.ExpressionViews.{expression_model}
use Rattle.al_view.specs.declared.view.SubtypeView.{SubtypeView}
use Rattle.al_stmts_ranges.proofs.loop_range.single_range.Goals as goal

pub returns-clause-answered : goal.returns-clause-answered
returns-clause-answered g c t h =
    let answered = c.in_ok-mark.ensures.answered t h in (
      answered.0,
      c.in_ok-range.ensures
          ∙ ap (λ (p : Place). next c.in_ok-mark.mark (whole_range p)) c.first_place.ensures
          ∙ ap (λ (m : Result SubtypeView Fault). next m (whole_range (first_place (expression_model c.args.expression.now)))) answered.1,
    )
