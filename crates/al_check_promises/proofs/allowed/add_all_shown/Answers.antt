use Rattle.al_view.specs.ViewUses.{view_uses}
use Rattle.al_check_promises.proofs.Gained.{gains_more}
use Rattle.al_check_promises.proofs.allowed.add_all_shown.Goals as goal

pub loop-view-preserved : goal.loop-view-preserved
loop-view-preserved c =
    gains_more (view_uses) c.args.set.now c.loop-view.set c.add_shown.new.set c.args.views.now c.loop-view.view-index c.view-item.result
    c.loop-view.invariant c.in_ok-add_shown.ensures c.view-item.is c.loop-view-test.true
