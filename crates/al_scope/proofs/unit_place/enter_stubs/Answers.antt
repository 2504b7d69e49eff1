use Rattle.std.proofs.Common.{◌≡◌, ◌∙◌, arith, take, ap, sym}
use Rattle.std.proofs.lemmas.List.{take_all}
use Rattle.std.specs.List.{flat_map}
use Rattle.al_scope.specs.UnitPlaces.{at_stubs, stub_units}
use Rattle.al_scope.proofs.UnitPlaceLemmas.{asks-same, asks-then, at_stubs-more, flat_map-more}
use Rattle.al_scope.proofs.unit_place.enter_stubs.Goals as goal

pub loop-stub-preserved : goal.loop-stub-preserved
loop-stub-preserved g c =
    let i = c.loop-stub.invariant in
    let stubs = c.args.stubs.now in
    let n = c.loop-stub.stub-index in
    let stub = c.stub-item.result in
    record {
      asked = c.enter_stub.ensures.asked ∙ i.asked;
      asks = asks-same _ _ c.args.recorder.now.log c.enter_stub.new.recorder.log (sym (flat_map-more stub_units stubs n stub (omega arith) c.stub-item.is)) (asks-then (flat_map stub_units (take n stubs)) (stub_units stub) c.args.recorder.now.log c.loop-stub.recorder.log c.enter_stub.new.recorder.log i.asks c.in_ok-enter_stub.ensures.asks);
      answered = λ t h. let answered = c.in_ok-enter_stub.ensures.answered t h in
          let before = i.answered t answered.0 in
          (before.0, at_stubs-more t stubs n stub c.args.scope.now.regions c.loop-stub.scope.regions c.enter_stub.new.scope.regions (omega arith) c.stub-item.is before.1 answered.1);
      mentioned = c.enter_stub.ensures.mentioned ∙ i.mentioned;
    }

pub returns-clause-answered : goal.returns-clause-answered
returns-clause-answered g c t h =
    let before = c.loop-stub.invariant.answered t h in
    let all : take c.loop-stub.stub-index c.args.stubs.now ≡ c.args.stubs.now = take_all c.loop-stub.stub-index c.args.stubs.now (omega arith) in
    (before.0, before.1 ∙ ap (λ l. at_stubs t l c.args.scope.now.regions) all)

pub returns-clause-asks : goal.returns-clause-asks
returns-clause-asks g c =
    let all : take c.loop-stub.stub-index c.args.stubs.now ≡ c.args.stubs.now = take_all c.loop-stub.stub-index c.args.stubs.now (omega arith) in
    asks-same _ _ c.args.recorder.now.log c.loop-stub.recorder.log (ap (flat_map stub_units) all) c.loop-stub.invariant.asks
