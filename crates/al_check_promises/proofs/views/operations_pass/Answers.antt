use Rattle.std.specs.List.{list_all}
use Rattle.al_view.specs.ViewUses.{subprogram_uses}
use Rattle.al_check_promises.proofs.Listed.{all_given, ends, stops}
use Rattle.al_check_promises.proofs.views.operations_pass.Goals as goal

pub returns-then-not-subprogram_passes : goal.returns-then-not-subprogram_passes
returns-then-not-subprogram_passes g c =
    let p = g.T.LinkTest.passing c.args.test.now in
    stops (λ o. list_all p (subprogram_uses o.subprogram)) c.args.operations.now c.loop-operation.operation-index c.operation-item.result c.subprogram_passes.result _
    c.operation-item.is c.loop-operation-test.true c.subprogram_passes.ensures c.if-not-subprogram_passes.true (all_given p (λ o. subprogram_uses o.subprogram) c.args.operations.now)

pub returns : goal.returns
returns g c =
    let p = g.T.LinkTest.passing c.args.test.now in
    ends (λ o. list_all p (subprogram_uses o.subprogram)) c.args.operations.now c.loop-operation.operation-index _
    c.loop-operation-test.false c.loop-operation.invariant (all_given p (λ o. subprogram_uses o.subprogram) c.args.operations.now)
