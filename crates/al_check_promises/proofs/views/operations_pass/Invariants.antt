use Rattle.std.proofs.Common.{◌≡◌, drop}
use Rattle.std.specs.List.{list_all}
use Rattle.al_view.specs.ViewUses.{subprogram_uses}
use Rattle.al_check_promises.proofs.views.operations_pass.Given as goal

abbrev pub invariant-loop-operation : goal.invariant-loop-operation
invariant-loop-operation g l =
    list_all (λ o. list_all (g.T.LinkTest.passing l.test) (subprogram_uses o.subprogram)) (drop l.operation-index l.operations)
    ≡ list_all (λ o. list_all (g.T.LinkTest.passing l.test) (subprogram_uses o.subprogram)) l.operations
