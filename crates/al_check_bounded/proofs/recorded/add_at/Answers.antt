use Rattle.std.proofs.Common.{◌++◌, ap, ◌∙◌}
use Rattle.std.proofs.lemmas.Result.{IfOk-weaker}
use Rattle.al_query.specs.declared.answer.AnswerKind.{AnswerKind}
use Rattle.al_query.specs.declared.query.Query.{Query}
use Rattle.al_check_bounded.specs.Questions.{shown_in}
use Rattle.al_check_bounded.proofs.Joined.{at_place, none_there}
use Rattle.al_check_bounded.proofs.recorded.add_at.Goals as goal

pub returns-in-Some : goal.returns-in-Some
returns-in-Some c =
    IfOk-weaker c.add_entry.result _ _ (λ v h e.
    h ∙ ap (λ (x : Query × AnswerKind). c.args.found.now.items ++ shown_in c.args.wanted.now x) (at_place c.args.log.now c.args.i e (c.in-Some.query.now, c.in-Some.answer.now) c.requires c.in-Some.ensures)) c.add_entry.ensures

pub returns-in-None : goal.returns-in-None
returns-in-None c = λ e. absurd (none_there c.args.log.now c.args.i e c.requires c.in-None.ensures)
