use Rattle.al_stmts.specs.Views.{effects_model}
use Rattle.al_stmts.specs.WalkedViews.{inside_model}
use Rattle.al_stmts_text.proofs.BodySteps.{ended}
use Rattle.al_stmts_text.proofs.Read.{if_ok}
use Rattle.al_stmts_text.proofs.bodies.finish_body.Goals as goal

pub returns-clause-answered : goal.returns-clause-answered
unfolding inside_model
returns-clause-answered g c =
    if_ok c.leave_body.result _ _
    (λ done answered t h.
    let left = answered t h in
    let body = c.in_ok-body.ensures.answered t left.0 in
    (body.0, ended (g.R.Analyzer.reading t) (effects_model c.args.effects) c.args.extent c.args.no_return _ _ _ _ _ (inside_model c.args.inside) body.1 c.in_ok-part.ensures left.1))
    c.leave_body.ensures.answered
