use Rattle.std.specs.List.{list_all}
use Rattle.al_view_typed.specs.DeclarationTrees.{declaration_model}
use Rattle.al_view_typed.specs.Uses.{declaration_form_uses}
use Rattle.al_check_promises.proofs.Listed.{all_mapped, ends, stops}
use Rattle.al_check_promises.proofs.declarations.declarations_pass.Goals as goal

pub returns-then-not-form_passes : goal.returns-then-not-form_passes
returns-then-not-form_passes g c =
    let p = g.T.LinkTest.passing c.args.test.now in
    stops (λ x. list_all p (declaration_form_uses (declaration_model x).form)) c.args.declarations.now c.loop-declaration.declaration-index c.declaration-item.result c.form_passes.result _
    c.declaration-item.is c.loop-declaration-test.true c.form_passes.ensures c.if-not-form_passes.true (all_mapped p (λ d. declaration_form_uses d.form) declaration_model c.args.declarations.now)

pub returns : goal.returns
returns g c =
    let p = g.T.LinkTest.passing c.args.test.now in
    ends (λ x. list_all p (declaration_form_uses (declaration_model x).form)) c.args.declarations.now c.loop-declaration.declaration-index _
    c.loop-declaration-test.false c.loop-declaration.invariant (all_mapped p (λ d. declaration_form_uses d.form) declaration_model c.args.declarations.now)
