use Rattle.std.proofs.Common.{◌∙◌, Bool, ap, sym}
use Rattle.al_tree.specs.DeclarationViews.{compound_model}
use Rattle.al_scope_context.specs.UsesAt.{opened_at}
use Rattle.al_scope_context.proofs.UsesSteps.{if_ok}
use Rattle.al_scope_context.proofs.clause.opened_by.Goals as goal

pub returns-then-of_type-clause-answered : goal.returns-then-of_type-clause-answered
returns-then-of_type-clause-answered g c =
    if_ok c.opened_type.result _ _
    (λ clause answered t h. let known = answered t h in
    (known.0, known.1 ∙ ap (λ (b : Bool). opened_at t c.args.scope.now c.args.packages.now b (compound_model c.args.name.now)) (sym c.if-of_type.true)))
    c.opened_type.ensures.answered

pub returns-clause-answered : goal.returns-clause-answered
returns-clause-answered g c =
    if_ok c.opened_package.result _ _
    (λ clause answered t h. let known = answered t h in
    (known.0, known.1 ∙ ap (λ (b : Bool). opened_at t c.args.scope.now c.args.packages.now b (compound_model c.args.name.now)) (sym c.if-of_type.false)))
    c.opened_package.ensures.answered
