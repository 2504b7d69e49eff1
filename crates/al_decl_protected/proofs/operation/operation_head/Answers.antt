use Rattle.std.proofs.Common.{sym, ap, ◌∙◌}
use Rattle.al_tree.specs.DeclarationViews.{protected_operation_model}
use Rattle.al_tree.specs.declared.declaration.ProtectedOperation.{ProtectedOperation}
use Rattle.al_decl_protected.specs.Operations.{operation_head}
use Rattle.al_decl_protected.proofs.Outcomes.{if_ok}
use Rattle.al_decl_protected.proofs.operation.operation_head.Goals as goal

pub returns-in-Subprogram-clause-answered : goal.returns-in-Subprogram-clause-answered
returns-in-Subprogram-clause-answered g c =
    if_ok c.heading_at.result _ _
    (λ head answered t h.
    let known = answered t h in
    let R = g.R.PartAnalyzer.reading c.args.analyzer.now t in
    (known.0, known.1 ∙ ap (λ (o : ProtectedOperation). operation_head R c.args.scope.now (protected_operation_model o)) (sym c.in-Subprogram.is)))
    c.heading_at.ensures.answered
