use Rattle.std.proofs.Common.{◌∙◌, ap, sym}
use Rattle.al_query.specs.Answers.{own_view_of}
use Rattle.al_scope_context.proofs.mention.view_of.Goals as goal

pub returns-clause-answered : goal.returns-clause-answered
returns-clause-answered g c t h =
    let answered = c.in_ok-answer.ensures.answered t h in
    (answered.0, c.in_ok-view.ensures ∙ c.own_view.ensures ∙ ap own_view_of (sym answered.1 ∙ ap t c.in_ok-query.ensures))
