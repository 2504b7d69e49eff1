use Rattle.std.proofs.Common.{map}
use Rattle.al_tree.specs.ExpressionViews.{expression_model}
use Rattle.al_tree.specs.StatementViews.{alternative_model, alternatives_of}
use Rattle.al_stmts_text.proofs.HeadSteps.{case_checked}
use Rattle.al_stmts_text.proofs.heads.case_after.Goals as goal

pub returns-in-Ok-clause-answered : goal.returns-in-Ok-clause-answered
returns-in-Ok-clause-answered g c = λ t h.
    let made = c.in-Ok.ensures.answered t h in
    (made.0, case_checked (g.R.Analyzer.reading t) c.args.place c.args.slot (expression_model c.args.selector.now) _ _ _ _ _ (alternative_model c.args.first.now) (alternatives_of (map alternative_model c.args.others.now)) made.1 c.new.ensures)
