use Rattle.std.proofs.Common.{◌≡◌, drop}
use Rattle.std.specs.List.{flat_map, list_all}
use Rattle.al_view.specs.ViewUses.{view_uses}
use Rattle.al_check_promises.proofs.interfaces.declared_pass.Given as goal

abbrev pub invariant-loop-i : goal.invariant-loop-i
invariant-loop-i g l =
    list_all (λ e. list_all (g.T.LinkTest.passing l.test) (flat_map view_uses e.1)) (drop l.i l.interface)
    ≡ list_all (λ e. list_all (g.T.LinkTest.passing l.test) (flat_map view_uses e.1)) l.interface
