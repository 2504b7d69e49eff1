use Rattle.std.proofs.Common.{arith, ◌∙◌}
use Rattle.al_check_here.proofs.Lists.{folded}
use Rattle.al_check_declared.specs.ObjectRegions.{with_component}
use Rattle.al_check_declared.proofs.region.declare_components.Goals as goal

pub loop-component-preserved : goal.loop-component-preserved
loop-component-preserved c = (
  folded (with_component c.args.object.now c.args.is_constant) (c.args.env.now, 0) (c.loop-component.env, c.loop-component.word) (c.declare_component.new.env, c.in_ok-after.after) c.args.components.now
      c.loop-component.component-index c.component-item.result (omega arith) c.component-item.is c.loop-component.invariant.0 c.in_ok-after.ensures.declared,
  c.in_ok-after.ensures.depth ∙ c.loop-component.invariant.1,
)
