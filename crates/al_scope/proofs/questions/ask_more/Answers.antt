use Rattle.std.proofs.Common.{sym, ◌∙◌, ap, ◌++◌}
use Rattle.al_query.specs.Answers.{views_of}
use Rattle.al_scope.specs.Asked.{query_of}
use Rattle.al_scope.specs.Visible.{children_in}
use Rattle.al_scope.proofs.HidingLemmas.{append-assoc}
use Rattle.al_scope.proofs.PartLemmas.{parts-ask}
use Rattle.al_scope.proofs.questions.ask_more.Goals as goal

pub returns-clause-answered : goal.returns-clause-answered
returns-clause-answered g c t h =
    let answered = c.in_ok-answer.ensures.answered t h in
    let children = children_in c.args.mentioned.now c.args.name.now c.args.from.now in
    let asked = c.in_ok-append.ensures ∙ ap (λ l. c.args.views.now ++ l) (c.views.ensures ∙ ap views_of (sym answered.1 ∙ ap t c.in_ok-query.ensures)) in
    (answered.0, c.in_ok-append_children.ensures.is ∙ ap (λ l. l ++ children) asked ∙ append-assoc c.args.views.now (views_of (t (query_of c.args.name.now c.args.from.now))) children)

pub returns-clause-asks : goal.returns-clause-asks
returns-clause-asks g c = parts-ask c.args.recorder.now.log c.ask.new.self.log c.in_ok-query.query c.args.from.now c.args.name.now c.in_ok-answer.answer c.in_ok-query.ensures c.in_ok-answer.ensures.log
