use Rattle.std.proofs.Common.{map}
use Rattle.al_tree.specs.ExpressionViews.{expression_model}
use Rattle.al_tree.specs.StatementViews.{alternative_model, alternatives_of}
use Rattle.al_view_typed.specs.ExpressionViews.{typed_model}
use Rattle.al_stmts_text.proofs.HeadSteps.{choices_right}
use Rattle.al_stmts_text.proofs.heads.case_choices.Goals as goal

pub returns-clause-answered : goal.returns-clause-answered
returns-clause-answered g c = λ t h.
    let right = c.in_ok-are_right.ensures.answered t h in
    let choices = c.in_ok-choices.ensures.answered t right.0 in
    (choices.0, choices_right (g.R.Analyzer.reading t) (expression_model c.args.selector.now) _ _ _ typed_model c.args.checked.now c.is_ok.result _ _ (alternative_model c.args.first.now) (alternatives_of (map alternative_model c.args.others.now)) c.is_ok.ensures.value choices.1 right.1)
