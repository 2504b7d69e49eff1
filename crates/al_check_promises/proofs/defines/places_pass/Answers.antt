use Rattle.std.specs.List.{list_all}
use Rattle.al_view.specs.ViewUses.{link}
use Rattle.al_check_promises.proofs.Listed.{ends, stops}
use Rattle.std.proofs.lemmas.List.Folds.{list_all-map}
use Rattle.al_check_promises.proofs.defines.places_pass.Goals as goal

pub returns-then-not-passes : goal.returns-then-not-passes
returns-then-not-passes g c =
    let p = g.T.LinkTest.passing c.args.test.now in
    stops (λ x. p (link c.args.kind x.symbol)) c.args.places.now c.loop-place.place-index c.place-item.result c.passes.result _
    c.place-item.is c.loop-place-test.true c.passes.ensures c.if-not-passes.true (list_all-map p (λ x. link c.args.kind x.symbol) c.args.places.now)

pub returns : goal.returns
returns g c =
    let p = g.T.LinkTest.passing c.args.test.now in
    ends (λ x. p (link c.args.kind x.symbol)) c.args.places.now c.loop-place.place-index _
    c.loop-place-test.false c.loop-place.invariant (list_all-map p (λ x. link c.args.kind x.symbol) c.args.places.now)
