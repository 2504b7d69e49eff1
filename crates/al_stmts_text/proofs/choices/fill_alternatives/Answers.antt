use Rattle.al_tree.specs.ExpressionViews.{expression_model}
use Rattle.al_stmts_text.proofs.ChoosingSteps.{all_filled}
use Rattle.al_stmts_text.proofs.Read.{on_ok}
use Rattle.al_stmts_text.proofs.choices.fill_alternatives.Goals as goal

pub returns-clause-answered : goal.returns-clause-answered
returns-clause-answered g c =
    on_ok c.add_alternatives.result _ _
    (λ answered t h.
    let more = answered t h in
    let first = c.in_ok-add_alternative.ensures.answered t more.0 in
    (first.0, all_filled (g.R.Analyzer.reading t) (expression_model c.args.selector.now) _ _ _ _ _ c.args.first.now c.args.others.now first.1 more.1))
    c.add_alternatives.ensures.answered
