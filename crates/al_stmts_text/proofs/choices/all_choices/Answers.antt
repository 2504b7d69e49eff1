use Rattle.al_tree.specs.ExpressionViews.{expression_model}
use Rattle.al_stmts_text.proofs.ChoosingSteps.{all_of, none_of}
use Rattle.al_stmts_text.proofs.choices.all_choices.Goals as goal

pub returns-then-not-is_right-clause-answered : goal.returns-then-not-is_right-clause-answered
returns-then-not-is_right-clause-answered g c = λ t h. (h, none_of (g.R.Analyzer.reading t) (expression_model c.args.selector.now) _ _ c.args.is_right c.args.first.now c.args.others.now c.if-not-is_right.true c.new-choices.ensures)

pub returns-in-Ok-clause-answered : goal.returns-in-Ok-clause-answered
returns-in-Ok-clause-answered g c = λ t h.
    let made = c.in-Ok.ensures.answered t h in
    (made.0, all_of (g.R.Analyzer.reading t) (expression_model c.args.selector.now) _ _ _ _ c.args.is_right c.args.first.now c.args.others.now c.if-not-is_right.false c.new-choices.ensures made.1)
