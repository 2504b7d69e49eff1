use Rattle.std.specs.List.{list_all}
use Rattle.al_view.specs.ViewUses.{view_uses}
use Rattle.al_check_promises.proofs.Listed.{all_given, ends, stops}
use Rattle.al_check_promises.proofs.interfaces.completions_pass.Goals as goal

pub returns-then-not-view_passes : goal.returns-then-not-view_passes
returns-then-not-view_passes g c =
    let p = g.T.LinkTest.passing c.args.test.now in
    stops (λ x. list_all p (view_uses x.view)) c.args.completions.now c.loop-completion.completion-index c.completion-item.result c.view_passes.result _
    c.completion-item.is c.loop-completion-test.true c.view_passes.ensures c.if-not-view_passes.true (all_given p (λ c. view_uses c.view) c.args.completions.now)

pub returns : goal.returns
returns g c =
    let p = g.T.LinkTest.passing c.args.test.now in
    ends (λ x. list_all p (view_uses x.view)) c.args.completions.now c.loop-completion.completion-index _
    c.loop-completion-test.false c.loop-completion.invariant (all_given p (λ c. view_uses c.view) c.args.completions.now)
