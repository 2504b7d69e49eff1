use Rattle.std.proofs.Common.{ap, sym, ◌∙◌}
use Rattle.al_tree.specs.DeclarationViews.{common_model}
use Rattle.al_tree.specs.declared.declaration.CommonDeclaration.{CommonDeclaration}
use Rattle.al_check_declared.specs.DeclarationsHere.{open_declared}
use Rattle.al_check_declared.proofs.Composed.{if_ok}
use Rattle.al_check_declared.proofs.declarations.open_declared.Goals as goal

pub returns-in-Object-clause-answered : goal.returns-in-Object-clause-answered
returns-in-Object-clause-answered g c =
    if_ok c.object.result _ _
    (λ checked answered t h.
    let read = answered t h in (read.0, read.1 ∙ ap (λ (d : CommonDeclaration). open_declared t c.args.state.now (common_model d)) (sym c.in-Object.is)))
    c.object.ensures.answered

pub returns-in-Type-clause-answered : goal.returns-in-Type-clause-answered
returns-in-Type-clause-answered g c =
    if_ok c.type_declaration.result _ _
    (λ checked answered t h.
    let read = answered t h in (read.0, read.1 ∙ ap (λ (d : CommonDeclaration). open_declared t c.args.state.now (common_model d)) (sym c.in-Type.is)))
    c.type_declaration.ensures.answered

pub returns-in-Subtype-clause-answered : goal.returns-in-Subtype-clause-answered
returns-in-Subtype-clause-answered g c =
    if_ok c.subtype.result _ _
    (λ checked answered t h.
    let read = answered t h in (read.0, read.1 ∙ ap (λ (d : CommonDeclaration). open_declared t c.args.state.now (common_model d)) (sym c.in-Subtype.is)))
    c.subtype.ensures.answered

pub returns-in-Use-clause-answered : goal.returns-in-Use-clause-answered
returns-in-Use-clause-answered g c =
    if_ok c.use_clause.result _ _
    (λ checked answered t h.
    let read = answered t h in (read.0, read.1 ∙ ap (λ (d : CommonDeclaration). open_declared t c.args.state.now (common_model d)) (sym c.in-Use.is)))
    c.use_clause.ensures.answered

pub returns-in-Pragma-clause-answered : goal.returns-in-Pragma-clause-answered
returns-in-Pragma-clause-answered g c =
    if_ok c.pragma.result _ _
    (λ checked settled t h. (h, settled ∙ ap (λ (d : CommonDeclaration). open_declared t c.args.state.now (common_model d)) (sym c.in-Pragma.is)))
    c.pragma.ensures
