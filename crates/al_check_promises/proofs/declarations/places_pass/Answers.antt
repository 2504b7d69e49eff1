use Rattle.std.specs.List.{list_all}
use Rattle.al_view.specs.ViewUses.{place_uses}
use Rattle.al_view.specs.declared.link.LinkKind.TheVariants.{Data}
use Rattle.al_check_promises.proofs.Listed.{all_given, ends, stops}
use Rattle.al_check_promises.proofs.declarations.places_pass.Goals as goal

pub returns-then-not-place_passes : goal.returns-then-not-place_passes
returns-then-not-place_passes g c =
    let p = g.T.LinkTest.passing c.args.test.now in
    stops (λ x. list_all p (place_uses Data x)) c.args.places.now c.loop-place.place-index c.place-item.result c.place_passes.result _
    c.place-item.is c.loop-place-test.true c.place_passes.ensures c.if-not-place_passes.true (all_given p (place_uses Data) c.args.places.now)

pub returns : goal.returns
returns g c =
    let p = g.T.LinkTest.passing c.args.test.now in
    ends (λ x. list_all p (place_uses Data x)) c.args.places.now c.loop-place.place-index _
    c.loop-place-test.false c.loop-place.invariant (all_given p (place_uses Data) c.args.places.now)
