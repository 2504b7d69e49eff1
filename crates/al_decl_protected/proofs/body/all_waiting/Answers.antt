use Rattle.std.proofs.Common.{[], arith}
use Rattle.al_decl.proofs.Folds.{folded}
use Rattle.al_decl_protected.specs.Bodies.{with_operation}
use Rattle.al_decl_protected.proofs.body.all_waiting.Goals as goal

pub loop-operation-preserved : goal.loop-operation-preserved
loop-operation-preserved c =
    folded with_operation [] c.loop-operation.uncompleted c.add_operation.new.uncompleted c.args.operations.now c.loop-operation.operation-index c.operation-item.result (omega arith) c.operation-item.is c.loop-operation.invariant c.in_ok-add_operation.ensures
