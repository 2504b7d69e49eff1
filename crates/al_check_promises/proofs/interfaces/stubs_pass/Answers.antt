use Rattle.std.specs.List.{list_all}
use Rattle.al_query_outcome.specs.Defines.{declared_uses}
use Rattle.al_check_promises.proofs.Listed.{all_given, ends, stops}
use Rattle.al_check_promises.proofs.interfaces.stubs_pass.Goals as goal

pub returns-then-not-declared_pass : goal.returns-then-not-declared_pass
returns-then-not-declared_pass g c =
    let p = g.T.LinkTest.passing c.args.test.now in
    stops (λ x. list_all p (declared_uses x.before)) c.args.stubs.now c.loop-stub.stub-index c.stub-item.result c.declared_pass.result _
    c.stub-item.is c.loop-stub-test.true c.declared_pass.ensures c.if-not-declared_pass.true (all_given p (λ s. declared_uses s.before) c.args.stubs.now)

pub returns : goal.returns
returns g c =
    let p = g.T.LinkTest.passing c.args.test.now in
    ends (λ x. list_all p (declared_uses x.before)) c.args.stubs.now c.loop-stub.stub-index _
    c.loop-stub-test.false c.loop-stub.invariant (all_given p (λ s. declared_uses s.before) c.args.stubs.now)
