use Rattle.std.specs.List.{list_all}
use Rattle.al_view_typed.specs.Uses.{protected_defines}
use Rattle.al_check_promises.proofs.Listed.{all_given, ends, stops}
use Rattle.al_check_promises.proofs.defines.objects_pass.Goals as goal

pub returns-then-not-object_passes : goal.returns-then-not-object_passes
returns-then-not-object_passes g c =
    let p = g.T.LinkTest.passing c.args.test.now in
    stops (λ x. list_all p (protected_defines x)) c.args.objects.now c.loop-object.object-index c.object-item.result c.object_passes.result _
    c.object-item.is c.loop-object-test.true c.object_passes.ensures c.if-not-object_passes.true (all_given p protected_defines c.args.objects.now)

pub returns : goal.returns
returns g c =
    let p = g.T.LinkTest.passing c.args.test.now in
    ends (λ x. list_all p (protected_defines x)) c.args.objects.now c.loop-object.object-index _
    c.loop-object-test.false c.loop-object.invariant (all_given p protected_defines c.args.objects.now)
