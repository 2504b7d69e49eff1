use Rattle.al_view.specs.ViewUses.{subprogram_uses}
use Rattle.al_check_promises.proofs.Gained.{gains_more}
use Rattle.al_check_promises.proofs.shown.add_operations.Goals as goal

pub loop-operation-preserved : goal.loop-operation-preserved
loop-operation-preserved c =
    gains_more (λ o. subprogram_uses o.subprogram) c.args.set.now c.loop-operation.set c.add_subprogram.new.set c.args.operations.now c.loop-operation.operation-index c.operation-item.result
    c.loop-operation.invariant c.in_ok-add_subprogram.ensures c.operation-item.is c.loop-operation-test.true
