use Rattle.std.specs.List.{list_all}
use Rattle.al_view.specs.ViewUses.{view_uses}
use Rattle.al_check_promises.proofs.Listed.{all_given, ends, stops}
use Rattle.al_check_promises.proofs.interfaces.views_pass.Goals as goal

pub returns-then-not-view_passes : goal.returns-then-not-view_passes
returns-then-not-view_passes g c =
    let p = g.T.LinkTest.passing c.args.test.now in
    stops (λ x. list_all p (view_uses x)) c.args.views.now c.loop-view.view-index c.view-item.result c.view_passes.result _
    c.view-item.is c.loop-view-test.true c.view_passes.ensures c.if-not-view_passes.true (all_given p view_uses c.args.views.now)

pub returns : goal.returns
returns g c =
    let p = g.T.LinkTest.passing c.args.test.now in
    ends (λ x. list_all p (view_uses x)) c.args.views.now c.loop-view.view-index _
    c.loop-view-test.false c.loop-view.invariant (all_given p view_uses c.args.views.now)
