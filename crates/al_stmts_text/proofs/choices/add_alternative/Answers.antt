use Rattle.al_tree.specs.ExpressionViews.{expression_model}
use Rattle.al_stmts_text.proofs.ChoosingSteps.{added}
use Rattle.al_stmts_text.proofs.Read.{on_ok}
use Rattle.al_stmts_text.proofs.choices.add_alternative.Goals as goal

pub returns-in-Ok-clause-answered : goal.returns-in-Ok-clause-answered
returns-in-Ok-clause-answered g c =
    on_ok c.add.result _ _
    (λ is t h.
    let made = c.in-Ok.ensures.answered t h in
    (made.0, added (g.R.Analyzer.reading t) (expression_model c.args.selector.now) _ _ _ _ _ _ c.args.alternative.now c.new-choices.ensures made.1 is))
    c.add.ensures
