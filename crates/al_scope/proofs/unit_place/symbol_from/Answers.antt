use Rattle.std.proofs.Common.{◌≡◌, ◌∙◌, ap, refl, sym}
use Rattle.al_query.specs.Answers.{own_view_of}
use Rattle.al_query.specs.declared.query.Query.TheVariants.{Of}
use Rattle.al_query.specs.declared.query.Property.TheVariants.{Kind}
use Rattle.al_scope.specs.UnitPlaces.{view_symbol}
use Rattle.al_scope.proofs.UnitPlaceLemmas.{asks-one}
use Rattle.al_scope.proofs.unit_place.symbol_from.Goals as goal

pub returns-clause-answered : goal.returns-clause-answered
returns-clause-answered g c t h =
    let answered = c.in_ok-answer.ensures.answered t h in
    let asked : t (Of c.args.unit.now Kind) ≡ c.in_ok-answer.answer = ap t (sym c.in_ok-query.ensures) ∙ answered.1 in
    (answered.0, c.in_ok-symbol.ensures.is ∙ ap view_symbol (c.own_view.ensures ∙ ap own_view_of (sym asked)))

pub returns-clause-asks : goal.returns-clause-asks
returns-clause-asks g c = asks-one c.args.recorder.now.log c.ask.new.self.log c.in_ok-query.query c.args.unit.now Kind c.in_ok-answer.answer refl c.in_ok-query.ensures c.in_ok-answer.ensures.log
