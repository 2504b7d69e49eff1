use Rattle.std.proofs.Common.{None, Result, ap, ◌∙◌}
use Rattle.al_base.specs.declared.place.Place.{Place}
use Rattle.al_decl_judged.specs.Indications.{index_of_mark}
use Rattle.al_base_fault.specs.declared.fault.Fault.{Fault}
use Rattle.al_overload_values.proofs.Composed.{if_ok}
use Rattle.al_tree.specs.ExpressionViews.{expression_model}
use Rattle.al_overload_lookup.specs.Places.{first_place}
use Rattle.al_view.specs.declared.view.SubtypeView.{SubtypeView}
use Rattle.al_decl_ada.specs.Complete.{completed}
use Rattle.al_decl_ada.proofs.index.single_index.Goals as goal

pub returns-clause-answered : goal.returns-clause-answered
returns-clause-answered g c =
    if_ok c.index_of_mark-subtype.result _ _
    (λ checked is t h.
    let answered = c.in_ok-range.ensures.answered t h in (
      answered.0,
      is
          ∙ ap (λ (p : Place). index_of_mark p c.completed-range.result None) c.first_place-2.ensures
          ∙ ap (λ (m : Result SubtypeView Fault). index_of_mark (first_place (expression_model c.args.expression.now)) m None)
          (c.completed-range.ensures ∙ ap (λ (p : Place). completed c.args.unit.now p c.in_ok-range.range) c.first_place.ensures ∙ ap (completed c.args.unit.now (first_place (expression_model c.args.expression.now))) answered.1),
    ))
    c.index_of_mark-subtype.ensures
