use Rattle.std.proofs.Common.{sym, ◌∙◌, arith}
use Rattle.al_scope.specs.Places.{place_of}
use Rattle.al_scope.proofs.PlaceLemmas.{no_place_left, place_found, place_passed}
use Rattle.al_scope.proofs.scope.place_of.Goals as goal

pub loop-region-preserved : goal.loop-region-preserved
loop-region-preserved c =
    let i = c.loop-region.invariant in
    record {
      at = omega (arith, i.at);
      within = omega (arith, c.loop-region-test.true);
      rest = place_passed c.args.construct.now c.args.regions.now c.loop-region.region-index c.region-item.result (place_of c.args.construct.now c.args.regions.now)
          c.loop-region-test.true c.region-item.is (sym c.is_of.ensures ∙ c.if-is_of.false) i.rest;
    }

pub returns-then-is_of-clause-is : goal.returns-then-is_of-clause-is
returns-then-is_of-clause-is c =
    let i = c.loop-region.invariant in
    i.at
    ∙ place_found c.args.construct.now c.args.regions.now c.loop-region.region-index c.region-item.result (place_of c.args.construct.now c.args.regions.now)
    c.loop-region-test.true c.region-item.is (sym c.is_of.ensures ∙ c.if-is_of.true) i.rest

pub returns-clause-is : goal.returns-clause-is
returns-clause-is c =
    let i = c.loop-region.invariant in
    i.at ∙ no_place_left c.args.construct.now c.args.regions.now c.loop-region.region-index (place_of c.args.construct.now c.args.regions.now) c.loop-region-test.false i.rest
