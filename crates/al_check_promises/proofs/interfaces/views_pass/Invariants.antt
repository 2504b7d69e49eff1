use Rattle.std.proofs.Common.{◌≡◌, drop}
use Rattle.std.specs.List.{list_all}
use Rattle.al_view.specs.ViewUses.{view_uses}
use Rattle.al_check_promises.proofs.interfaces.views_pass.Given as goal

abbrev pub invariant-loop-view : goal.invariant-loop-view
invariant-loop-view g l =
    list_all (λ x. list_all (g.T.LinkTest.passing l.test) (view_uses x)) (drop l.view-index l.views)
    ≡ list_all (λ x. list_all (g.T.LinkTest.passing l.test) (view_uses x)) l.views
