use Rattle.std.proofs.Common.{◌≡◌, drop}
use Rattle.std.specs.List.{list_all}
use Rattle.al_view_typed.specs.DeclarationTrees.{component_value_model}
use Rattle.al_view_typed.specs.Uses.{value_uses}
use Rattle.al_check_promises.proofs.declarations.components_pass.Given as goal

abbrev pub invariant-loop-value : goal.invariant-loop-value
invariant-loop-value g l =
    list_all (λ x. list_all (g.T.LinkTest.passing l.test) (value_uses (component_value_model x).value)) (drop l.value-index l.values)
    ≡ list_all (λ x. list_all (g.T.LinkTest.passing l.test) (value_uses (component_value_model x).value)) l.values
