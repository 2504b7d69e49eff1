use Rattle.std.proofs.Common.{◌≡◌, ◌∙◌, ◌++◌, ap, refl, sym}
use Rattle.al_query.specs.Answers.{context_of}
use Rattle.al_query.specs.declared.query.Query.TheVariants.{Of}
use Rattle.al_query.specs.declared.query.Property.TheVariants.{Context}
use Rattle.al_scope.specs.UnitPlaces.{lineages, withs_if_told}
use Rattle.al_scope.proofs.UnitPlaceLemmas.{append-none, asks-one}
use Rattle.al_scope.proofs.mentions.add_withs.Goals as goal

pub returns-in-Some-clause-answered : goal.returns-in-Some-clause-answered
returns-in-Some-clause-answered g c t h =
    let answered = c.in_ok-answer.ensures.answered t h in
    let asked : t (Of c.args.unit.now Context) ≡ c.in_ok-answer.answer = ap t (sym c.in_ok-query.ensures) ∙ answered.1 in
    let same = c.in-Some.ensures ∙ ap context_of (sym asked) in
    (answered.0, c.in_ok-add_lineages-in-Some.ensures.is ∙ ap (λ us. c.args.names.now.items ++ lineages us) c.as_slice.ensures ∙ ap (λ o. c.args.names.now.items ++ lineages (withs_if_told o)) same)

pub returns-clause-answered : goal.returns-clause-answered
returns-clause-answered g c t h =
    let answered = c.in_ok-answer.ensures.answered t h in
    let asked : t (Of c.args.unit.now Context) ≡ c.in_ok-answer.answer = ap t (sym c.in_ok-query.ensures) ∙ answered.1 in
    let same = c.in-None.ensures ∙ ap context_of (sym asked) in
    (answered.0, sym (append-none c.args.names.now.items) ∙ ap (λ o. c.args.names.now.items ++ lineages (withs_if_told o)) same)

pub returns-in-Some-clause-asks : goal.returns-in-Some-clause-asks
returns-in-Some-clause-asks g c = asks-one c.args.recorder.now.log c.ask.new.self.log c.in_ok-query.query c.args.unit.now Context c.in_ok-answer.answer refl c.in_ok-query.ensures c.in_ok-answer.ensures.log

pub returns-clause-asks : goal.returns-clause-asks
returns-clause-asks g c = asks-one c.args.recorder.now.log c.ask.new.self.log c.in_ok-query.query c.args.unit.now Context c.in_ok-answer.answer refl c.in_ok-query.ensures c.in_ok-answer.ensures.log
