use Rattle.std.proofs.Common.{◌∙◌, sym}
use Rattle.std.proofs.lemmas.Result.{IfOk-weaker}
use Rattle.al_query.specs.Asked.{OfKnown}
use Rattle.al_query.proofs.AskLemmas.{asks_none}
use Rattle.al_check_bounded.specs.Bounding.{allowed}
use Rattle.al_check_bounded.proofs.BoundLemmas.{asks-allowed, asks-others, bounded-asked, bounded-none}
use Rattle.al_check_bounded.proofs.replayed.answer_within.Goals as goal

pub returns-then-may_ask-clause-answered : goal.returns-then-may_ask-clause-answered
returns-then-may_ask-clause-answered g c t h =
    let answered = c.in_ok-answer.ensures.answered t h in
    (answered.0, sym answered.1 ∙ sym (bounded-asked c.args.bounds.now c.args.query.now t (sym c.may_ask.ensures ∙ c.if-may_ask.true)))

pub returns-then-may_ask-clause-asks : goal.returns-then-may_ask-clause-asks
returns-then-may_ask-clause-asks g c =
    asks-allowed c.args.bounds.now c.args.query.now c.in_ok-answer.answer c.args.recorder.now.log c.ask.new.self.log (sym c.may_ask.ensures ∙ c.if-may_ask.true) c.in_ok-answer.ensures.log

pub returns-then-may_ask-clause-others : goal.returns-then-may_ask-clause-others
returns-then-may_ask-clause-others g c =
    asks-others c.args.bounds.now c.args.query.now c.in_ok-answer.answer c.args.recorder.now.log c.ask.new.self.log (sym c.may_ask.ensures ∙ c.if-may_ask.true) c.in_ok-answer.ensures.log

pub returns-clause-answered : goal.returns-clause-answered
returns-clause-answered g c =
    IfOk-weaker c.no_answer.result _ _ (λ v e t h. (h, e ∙ sym (bounded-none c.args.bounds.now c.args.query.now t (sym c.may_ask.ensures ∙ c.if-may_ask.false)))) c.no_answer.ensures

pub returns-clause-asks : goal.returns-clause-asks
returns-clause-asks g c =
    let b = c.args.bounds.now in
    IfOk-weaker c.no_answer.result _ _ (λ v e. asks_none (OfKnown b.known (allowed b)) c.args.recorder.now.log) c.no_answer.ensures
