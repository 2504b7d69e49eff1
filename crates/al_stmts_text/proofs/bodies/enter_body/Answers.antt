use Rattle.al_stmts_text.proofs.BodySteps.{entered}
use Rattle.al_stmts_text.proofs.bodies.enter_body.Goals as goal

pub returns-clause-answered : goal.returns-clause-answered
returns-clause-answered g c = λ t h.
    let returns = c.in_ok-returns.ensures.answered t h in
    let inner = c.in_ok-body_entered.ensures.answered t returns.0 in
    (inner.0, entered (g.R.Analyzer.reading t) _ _ _ _ _ inner.1 returns.1 c.new.ensures)
