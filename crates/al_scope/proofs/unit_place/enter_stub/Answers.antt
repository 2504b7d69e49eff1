use Rattle.std.proofs.Common.{◌≡◌, [], ◌∷◌, ◌∙◌, ap, refl, sym}
use Rattle.al_query.specs.Answers.{own_view_of}
use Rattle.al_query.specs.Asked.{by_property}
use Rattle.al_query.specs.declared.query.Query.TheVariants.{Of}
use Rattle.al_query.specs.declared.query.Property.TheVariants.{Kind}
use Rattle.al_query.proofs.AskLemmas.{asks_of-right}
use Rattle.al_scope.specs.UnitPlaces.{at_stub, own_declaration, stub_units}
use Rattle.al_scope.proofs.UnitPlaceLemmas.{asks-both, asks-one}
use Rattle.al_scope.proofs.unit_place.enter_stub.Goals as goal

pub returns-clause-answered : goal.returns-clause-answered
returns-clause-answered g c t h =
    let answered = c.in_ok-enter_at.ensures.answered t h in
    let first = c.in_ok-answer.ensures.answered t answered.0 in
    let stub = c.args.stub.now in
    let asked : t (Of stub.unit Kind) ≡ c.in_ok-answer.answer = ap t (sym c.in_ok-query.ensures) ∙ first.1 in
    (first.0, answered.1 ∙ ap (λ v. at_stub t stub v c.args.scope.now.regions) (c.own_view.ensures ∙ ap own_view_of (sym asked)))

pub returns-clause-asks : goal.returns-clause-asks
returns-clause-asks g c =
    let stub = c.args.stub.now in
    let old = c.args.recorder.now.log in
    let mid = c.ask.new.self.log in
    let one = asks-one old mid c.in_ok-query.query stub.unit Kind c.in_ok-answer.answer refl c.in_ok-query.ensures c.in_ok-answer.ensures.log in
    asks-both (stub_units stub) old mid c.enter_at.new.recorder.log (asks_of-right (own_declaration stub.unit) (stub.unit ∷ []) by_property old mid one) c.in_ok-enter_at.ensures.asks
