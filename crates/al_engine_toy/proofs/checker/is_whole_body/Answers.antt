use Rattle.std.proofs.Common.{◌≡◌, ap, sym, subst, ◌∙◌}
use Rattle.al_base.specs.declared.unit_key.UnitKey.{UnitKey}
use Rattle.al_query.specs.Answers.{completions_of}
use Rattle.al_query.specs.Reads.{FromAnswers, logged}
use Rattle.al_query.specs.declared.query.Property.TheVariants.{Completions}
use Rattle.al_query.specs.declared.query.Query.TheVariants.{Of}
use Rattle.al_engine_toy.specs.Toys.{is_nothing}
use Rattle.al_engine_toy.proofs.JudgeLemmas.{asks_own}
use Rattle.al_engine_toy.proofs.checker.is_whole_body.Goals as goal

pub returns-clause-whole : goal.returns-clause-whole
returns-clause-whole g c = λ t agrees.
    let a = c.in_ok-answer.answer in
    let answered = subst (λ (d : UnitKey). FromAnswers c.args.recorder.now.log c.ask_of.new.recorder.log (λ t. t (Of d Completions) ≡ a)) c.in_ok-declaration.ensures c.in_ok-answer.ensures.answered in
    let m = answered t agrees in
    (m.0, c.is_nothing.ensures ∙ ap is_nothing (c.completions.ensures ∙ ap completions_of (sym m.1)))

pub returns-clause-asks : goal.returns-clause-asks
returns-clause-asks g c = λ h of none.
    let a = c.in_ok-answer.answer in
    let old = c.args.recorder.now.log in
    let is = c.in_ok-answer.ensures.log ∙ ap (λ (d : UnitKey). logged old (Of d Completions) a) c.in_ok-declaration.ensures in
    asks_own c.args.unit.now h old c.ask_of.new.recorder.log a c.requires of none is
