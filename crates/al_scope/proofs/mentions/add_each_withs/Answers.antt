use Rattle.std.proofs.Common.{◌≡◌, ◌∙◌, ◌++◌, arith, take, ap, refl, sym}
use Rattle.std.proofs.lemmas.List.{take_all}
use Rattle.std.specs.List.{flat_map}
use Rattle.al_scope.specs.UnitPlaces.{lineages, withs_of}
use Rattle.al_scope.proofs.UnitPlaceLemmas.{append-none, asks-at, asks-both, asks-none, names-more}
use Rattle.al_scope.proofs.mentions.add_each_withs.Goals as goal

pub loop-unit-init : goal.loop-unit-init
loop-unit-init g c = record {
  asks = asks-none c.args.units.now c.args.recorder.now.log;
  asked = refl;
  answered = λ t h. (h, sym (append-none c.args.names.now.items));
}

pub loop-unit-preserved : goal.loop-unit-preserved
loop-unit-preserved g c =
    let i = c.loop-unit.invariant in
    let unit = c.unit-item.result in
    record {
      asked = c.add_withs.ensures.asked ∙ i.asked;
      asks = asks-both c.args.units.now c.args.recorder.now.log c.loop-unit.recorder.log c.add_withs.new.recorder.log i.asks (asks-at c.args.units.now c.loop-unit.unit-index unit c.loop-unit.recorder.log c.add_withs.new.recorder.log (omega arith) c.unit-item.is c.in_ok-add_withs.ensures.asks);
      answered = λ t h. let answered = c.in_ok-add_withs.ensures.answered t h in
          let before = i.answered t answered.0 in
          (before.0, names-more (λ u. lineages (withs_of t u)) c.args.units.now c.loop-unit.unit-index unit c.args.names.now.items c.loop-unit.names.items c.add_withs.new.names.items (omega arith) c.unit-item.is before.1 answered.1);
    }

pub returns-clause-answered : goal.returns-clause-answered
returns-clause-answered g c t h =
    let before = c.loop-unit.invariant.answered t h in
    let all : take c.loop-unit.unit-index c.args.units.now ≡ c.args.units.now = take_all c.loop-unit.unit-index c.args.units.now (omega arith) in
    (before.0, before.1 ∙ ap (λ us. c.args.names.now.items ++ flat_map (λ u. lineages (withs_of t u)) us) all)
