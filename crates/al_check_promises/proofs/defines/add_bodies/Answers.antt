use Rattle.al_view_typed.specs.UnitTrees.{body_model}
use Rattle.al_view_typed.specs.Uses.{body_defines}
use Rattle.al_check_promises.proofs.Gained.{gains_more}
use Rattle.al_check_promises.proofs.defines.add_bodies.Goals as goal

pub loop-body-preserved : goal.loop-body-preserved
loop-body-preserved c =
    gains_more (λ b. body_defines (body_model b).symbol (body_model b).kind) c.args.set.now c.loop-body.set c.add_body.new.set c.args.bodies.now c.loop-body.body-index c.body-item.result
    c.loop-body.invariant c.in_ok-add_body.ensures c.body-item.is c.loop-body-test.true
