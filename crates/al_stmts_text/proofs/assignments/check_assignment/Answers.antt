use Rattle.std.proofs.Common.{ap, ◌∙◌}
use Rattle.al_tree.specs.ExpressionViews.{expression_model}
use Rattle.al_stmts.specs.Walking.{assigned_at}
use Rattle.al_stmts_text.proofs.MadeOfRead.{if_ok, target_read}
use Rattle.al_stmts_text.proofs.assignments.check_assignment.Goals as goal

pub returns-in-Ok-clause-answered : goal.returns-in-Ok-clause-answered
returns-in-Ok-clause-answered g c =
    if_ok c.assign.result _ _
    (λ checked answered t h.
    let later = answered t h in
    let read = c.in_ok-target.ensures.answered t later.0 in
    let R = g.R.Analyzer.reading t in
    let n = expression_model c.args.statement.now.target in
    let e = expression_model c.args.statement.now.value in
    (read.0, λ enclosing. later.1 ∙ ap (assigned_at R (g.R.Analyzer.env c.target.new.self) n e) c.in-Ok.ensures ∙ target_read R _ n e _ _ read.1))
    c.assign.ensures.answered

pub returns-in-Err-clause-answered : goal.returns-in-Err-clause-answered
returns-in-Err-clause-answered g c = λ t h.
    let read = c.in_ok-target.ensures.answered t h in
    let R = g.R.Analyzer.reading t in
    let n = expression_model c.args.statement.now.target in
    let e = expression_model c.args.statement.now.value in
    (read.0, λ enclosing. ap (assigned_at R (g.R.Analyzer.env c.target.new.self) n e) c.in-Err.ensures ∙ target_read R _ n e _ _ read.1)
