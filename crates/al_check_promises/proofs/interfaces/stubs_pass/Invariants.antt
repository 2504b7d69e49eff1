use Rattle.std.proofs.Common.{◌≡◌, drop}
use Rattle.std.specs.List.{list_all}
use Rattle.al_query_outcome.specs.Defines.{declared_uses}
use Rattle.al_check_promises.proofs.interfaces.stubs_pass.Given as goal

abbrev pub invariant-loop-stub : goal.invariant-loop-stub
invariant-loop-stub g l =
    list_all (λ x. list_all (g.T.LinkTest.passing l.test) (declared_uses x.before)) (drop l.stub-index l.stubs)
    ≡ list_all (λ x. list_all (g.T.LinkTest.passing l.test) (declared_uses x.before)) l.stubs
