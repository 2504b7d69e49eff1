use Rattle.std.proofs.Common.{ap, ◌∙◌}
use Rattle.al_overload_lookup.specs.Keys.{denoted}
use Rattle.al_overload_lookup.specs.declared.denoted.Names.{Names}
use Rattle.al_overload_values.specs.TextsAt.{term_with}
use Rattle.al_tree.specs.ExpressionViews.{expression_model}
use Rattle.al_overload_values.proofs.at.term_with_at.Goals as goal

pub returns-clause-answered : goal.returns-clause-answered
returns-clause-answered g c t h =
    let answered = c.in_ok-names.ensures.answered t h in
    let l = c.args.labeller.now in
    (answered.0, c.in_ok-checked.ensures ∙ ap (λ (n : Names). term_with l.predefined l.own (denoted n) c.args.at (expression_model c.args.expression.now)) answered.1)
