use Rattle.std.proofs.Common.{ap, ◌∙◌}
use Rattle.al_overload_lookup.specs.Keys.{denoted}
use Rattle.al_overload_lookup.specs.declared.denoted.Names.{Names}
use Rattle.al_overload_readings.specs.Texts.{mark_of_text}
use Rattle.al_tree.specs.ExpressionViews.{expression_model}
use Rattle.al_overload_values.proofs.text_at.mark_at.Goals as goal

pub returns-clause-answered : goal.returns-clause-answered
returns-clause-answered g c t h =
    let answered = c.in_ok-names.ensures.answered t h in
    (answered.0, c.in_ok-mark.ensures ∙ ap (λ (n : Names). mark_of_text (denoted n) (expression_model c.args.expression.now)) answered.1)
