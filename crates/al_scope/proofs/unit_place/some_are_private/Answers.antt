use Rattle.std.proofs.Common.{◌≡◌, ◌||◌, true, false, ◌∙◌, [], ◌∷◌, arith, take, ap, refl, sym}
use Rattle.std.proofs.lemmas.List.{take_all}
use Rattle.al_query.specs.Answers.{is_private_of}
use Rattle.al_query.specs.declared.query.Query.TheVariants.{Of}
use Rattle.al_query.specs.declared.query.Property.TheVariants.{IsPrivate}
use Rattle.al_scope.specs.UnitPlaces.{some_private}
use Rattle.al_scope.proofs.UnitPlaceLemmas.{asks-at, asks-both, asks-none, asks-one, none-more, some-at}
use Rattle.al_scope.proofs.unit_place.some_are_private.Goals as goal

pub loop-unit-init : goal.loop-unit-init
loop-unit-init g c = record {
  asks = asks-none c.args.units.now c.args.recorder.now.log;
  asked = refl;
  answered = λ t h. (h, refl);
}

pub loop-unit-preserved : goal.loop-unit-preserved
loop-unit-preserved g c =
    let i = c.loop-unit.invariant in
    let unit = c.unit-item.result in
    record {
      asked = c.ask.ensures.asked ∙ i.asked;
      asks = let one = asks-one c.loop-unit.recorder.log c.ask.new.self.log c.in_ok-query.query unit IsPrivate c.in_ok-answer.answer refl c.in_ok-query.ensures c.in_ok-answer.ensures.log in
          asks-both c.args.units.now c.args.recorder.now.log c.loop-unit.recorder.log c.ask.new.self.log i.asks (asks-at c.args.units.now c.loop-unit.unit-index unit c.loop-unit.recorder.log c.ask.new.self.log (omega arith) c.unit-item.is one);
      answered = λ t h. let answered = c.in_ok-answer.ensures.answered t h in
          let before = i.answered t answered.0 in
          let asked : t (Of unit IsPrivate) ≡ c.in_ok-answer.answer = ap t (sym c.in_ok-query.ensures) ∙ answered.1 in
          let no : some_private t (unit ∷ []) ≡ false = ap (λ a. is_private_of a || false) asked ∙ ap (λ b. b || false) (sym c.is_private.ensures ∙ c.if-is_private.false) in
          (before.0, none-more t c.args.units.now c.loop-unit.unit-index unit (omega arith) c.unit-item.is before.1 no);
    }

pub returns-then-is_private-clause-answered : goal.returns-then-is_private-clause-answered
returns-then-is_private-clause-answered g c t h =
    let unit = c.unit-item.result in
    let answered = c.in_ok-answer.ensures.answered t h in
    let before = c.loop-unit.invariant.answered t answered.0 in
    let asked : t (Of unit IsPrivate) ≡ c.in_ok-answer.answer = ap t (sym c.in_ok-query.ensures) ∙ answered.1 in
    let yes : some_private t (unit ∷ []) ≡ true = ap (λ a. is_private_of a || false) asked ∙ ap (λ b. b || false) (sym c.is_private.ensures ∙ c.if-is_private.true) in
    (before.0, sym (some-at t c.args.units.now c.loop-unit.unit-index unit (omega arith) c.unit-item.is yes))

pub returns-clause-answered : goal.returns-clause-answered
returns-clause-answered g c t h =
    let before = c.loop-unit.invariant.answered t h in
    let all : take c.loop-unit.unit-index c.args.units.now ≡ c.args.units.now = take_all c.loop-unit.unit-index c.args.units.now (omega arith) in
    (before.0, sym (ap (some_private t) (sym all) ∙ before.1))

pub returns-then-is_private-clause-asks : goal.returns-then-is_private-clause-asks
returns-then-is_private-clause-asks g c =
    let unit = c.unit-item.result in
    let one = asks-one c.loop-unit.recorder.log c.ask.new.self.log c.in_ok-query.query unit IsPrivate c.in_ok-answer.answer refl c.in_ok-query.ensures c.in_ok-answer.ensures.log in
    asks-both c.args.units.now c.args.recorder.now.log c.loop-unit.recorder.log c.ask.new.self.log c.loop-unit.invariant.asks (asks-at c.args.units.now c.loop-unit.unit-index unit c.loop-unit.recorder.log c.ask.new.self.log (omega arith) c.unit-item.is one)
