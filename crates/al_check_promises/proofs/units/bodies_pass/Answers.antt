use Rattle.std.specs.List.{list_all}
use Rattle.al_view_typed.specs.UnitTrees.{body_model}
use Rattle.al_view_typed.specs.Uses.{body_uses}
use Rattle.al_check_promises.proofs.Listed.{all_mapped, ends, stops}
use Rattle.al_check_promises.specs.Rules.{permits}
use Rattle.al_check_promises.proofs.units.bodies_pass.Goals as goal

pub returns-then-not-body_passes : goal.returns-then-not-body_passes
returns-then-not-body_passes c =
    let p = permits c.args.test.now in
    stops (λ x. list_all p (body_uses (body_model x))) c.args.bodies.now c.loop-body.body-index c.body-item.result c.body_passes.result _
    c.body-item.is c.loop-body-test.true c.body_passes.ensures c.if-not-body_passes.true (all_mapped p body_uses body_model c.args.bodies.now)

pub returns : goal.returns
returns c =
    let p = permits c.args.test.now in
    ends (λ x. list_all p (body_uses (body_model x))) c.args.bodies.now c.loop-body.body-index _
    c.loop-body-test.false c.loop-body.invariant (all_mapped p body_uses body_model c.args.bodies.now)
