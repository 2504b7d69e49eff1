use Rattle.std.proofs.Common.{◌≡◌, ◌∙◌, ap, refl, sym}
use Rattle.al_query.specs.Answers.{context_of}
use Rattle.al_query.specs.declared.query.Query.TheVariants.{Of}
use Rattle.al_query.specs.declared.query.Property.TheVariants.{Context}
use Rattle.al_scope.specs.UnitPlaces.{uses_if_told, with_clauses}
use Rattle.al_scope.proofs.UnitPlaceLemmas.{asks-one}
use Rattle.al_scope.proofs.parts.use_part.Goals as goal

pub returns-in-Some-clause-answered : goal.returns-in-Some-clause-answered
returns-in-Some-clause-answered g c t h =
    let answered = c.in_ok-answer.ensures.answered t h in
    let part = c.args.part.now in
    let asked : t (Of part.unit Context) ≡ c.in_ok-answer.answer = ap t (sym c.in_ok-query.ensures) ∙ answered.1 in
    (answered.0, c.in_ok-use_context-in-Some.ensures.regions ∙ ap (λ o. with_clauses (uses_if_told o part.part) c.args.scope.now.regions) (c.in-Some.ensures ∙ ap context_of (sym asked)))

pub returns-clause-answered : goal.returns-clause-answered
returns-clause-answered g c t h =
    let answered = c.in_ok-answer.ensures.answered t h in
    let part = c.args.part.now in
    let asked : t (Of part.unit Context) ≡ c.in_ok-answer.answer = ap t (sym c.in_ok-query.ensures) ∙ answered.1 in
    (answered.0, ap (λ o. with_clauses (uses_if_told o part.part) c.args.scope.now.regions) (c.in-None.ensures ∙ ap context_of (sym asked)))

pub returns-in-Some-clause-asks : goal.returns-in-Some-clause-asks
returns-in-Some-clause-asks g c = asks-one c.args.recorder.now.log c.ask.new.self.log c.in_ok-query.query c.args.part.now.unit Context c.in_ok-answer.answer refl c.in_ok-query.ensures c.in_ok-answer.ensures.log

pub returns-clause-asks : goal.returns-clause-asks
returns-clause-asks g c = asks-one c.args.recorder.now.log c.ask.new.self.log c.in_ok-query.query c.args.part.now.unit Context c.in_ok-answer.answer refl c.in_ok-query.ensures c.in_ok-answer.ensures.log
