use Rattle.al_view_typed.specs.Uses.{protected_defines}
use Rattle.al_check_promises.proofs.Gained.{gains_more}
use Rattle.al_check_promises.proofs.defines.add_objects.Goals as goal

pub loop-object-preserved : goal.loop-object-preserved
loop-object-preserved c =
    gains_more (protected_defines) c.args.set.now c.loop-object.set c.add_object.new.set c.args.objects.now c.loop-object.object-index c.object-item.result
    c.loop-object.invariant c.in_ok-add_object.ensures c.object-item.is c.loop-object-test.true
