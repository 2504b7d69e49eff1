use Rattle.std.specs.List.{list_all}
use Rattle.al_view_typed.specs.DeclarationTrees.{component_value_model}
use Rattle.al_view_typed.specs.Uses.{value_uses}
use Rattle.al_check_promises.proofs.Listed.{all_mapped, ends, stops}
use Rattle.al_check_promises.proofs.declarations.components_pass.Goals as goal

pub returns-then-not-value_passes : goal.returns-then-not-value_passes
returns-then-not-value_passes g c =
    let p = g.T.LinkTest.passing c.args.test.now in
    stops (λ x. list_all p (value_uses (component_value_model x).value)) c.args.values.now c.loop-value.value-index c.value-item.result c.value_passes.result _
    c.value-item.is c.loop-value-test.true c.value_passes.ensures c.if-not-value_passes.true (all_mapped p (λ v. value_uses v.value) component_value_model c.args.values.now)

pub returns : goal.returns
returns g c =
    let p = g.T.LinkTest.passing c.args.test.now in
    ends (λ x. list_all p (value_uses (component_value_model x).value)) c.args.values.now c.loop-value.value-index _
    c.loop-value-test.false c.loop-value.invariant (all_mapped p (λ v. value_uses v.value) component_value_model c.args.values.now)
