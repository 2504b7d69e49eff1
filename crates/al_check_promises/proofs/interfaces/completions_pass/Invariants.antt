use Rattle.std.proofs.Common.{◌≡◌, drop}
use Rattle.std.specs.List.{list_all}
use Rattle.al_view.specs.ViewUses.{view_uses}
use Rattle.al_check_promises.proofs.interfaces.completions_pass.Given as goal

abbrev pub invariant-loop-completion : goal.invariant-loop-completion
invariant-loop-completion g l =
    list_all (λ x. list_all (g.T.LinkTest.passing l.test) (view_uses x.view)) (drop l.completion-index l.completions)
    ≡ list_all (λ x. list_all (g.T.LinkTest.passing l.test) (view_uses x.view)) l.completions
