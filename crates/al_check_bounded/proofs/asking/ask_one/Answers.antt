use Rattle.std.proofs.Common.{◌++◌, sym, ap, ◌∙◌}
use Rattle.std.proofs.lemmas.Result.{on_ok_weaker}
use Rattle.al_query.specs.declared.answer.AnswerKind.{AnswerKind}
use Rattle.al_check_bounded.specs.Questions.{answer_views}
use Rattle.al_check_bounded.proofs.asking.ask_one.Goals as goal

pub returns-clause-answered : goal.returns-clause-answered
returns-clause-answered g c =
    on_ok_weaker c.add_views.result (λ added t h.
    let answered = c.in_ok-answer.ensures.answered t h in
    (answered.0, added ∙ ap (λ (a : AnswerKind). c.args.found.now.items ++ answer_views a) (sym answered.1))) c.add_views.ensures
