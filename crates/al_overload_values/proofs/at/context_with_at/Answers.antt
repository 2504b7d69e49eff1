use Rattle.std.proofs.Common.{ap, ◌∙◌}
use Rattle.al_base.specs.declared.place.Place.{Place}
use Rattle.al_overload_values.specs.TextsAt.{term_with_at}
use Rattle.al_tree.specs.ExpressionViews.{expression_model}
use Rattle.al_overload_values.proofs.at.context_with_at.Goals as goal

pub returns-clause-answered : goal.returns-clause-answered
returns-clause-answered g c t h =
    let answered = c.in_ok-checked.ensures.answered t h in
    let l = c.args.labeller.now in
    (answered.0, answered.1 ∙ ap (λ (q : Place). term_with_at t c.args.scope.now c.args.packages.now l.predefined l.own q (expression_model c.args.expression.now)) c.first_place-at.ensures)
