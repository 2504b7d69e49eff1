use Rattle.std.proofs.Common.{arith, ◌∙◌}
use Rattle.al_check_here.proofs.Lists.{folded}
use Rattle.al_check_declared.specs.ObjectRegions.{with_operation}
use Rattle.al_check_declared.proofs.region.declare_operations.Goals as goal

pub loop-operation-preserved : goal.loop-operation-preserved
loop-operation-preserved c = (
  folded with_operation c.args.env.now c.loop-operation.env c.declare_operation.new.env c.args.operations.now c.loop-operation.operation-index c.operation-item.result (omega arith) c.operation-item.is
      c.loop-operation.invariant.0 c.in_ok-declare_operation.ensures.declared,
  c.in_ok-declare_operation.ensures.depth ∙ c.loop-operation.invariant.1,
)
