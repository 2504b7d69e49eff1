use Rattle.std.proofs.Common.{◌∙◌}
use Rattle.al_check_bounded.proofs.BoundLemmas.{bounded-same}
use Rattle.al_check_bounded.proofs.replayed.ask_if_allowed.Goals as goal

pub returns-in_ok-answer-clause-answered : goal.returns-in_ok-answer-clause-answered
returns-in_ok-answer-clause-answered g c t h =
    let answered = c.in_ok-answer.ensures.answered t h in
    (answered.0, bounded-same c.args.bounds.now c.args.query.now t (g.A.Answers.table c.args.recorder.now.asked) (answered.1 ∙ c.in_ok-answer.ensures.answer))
