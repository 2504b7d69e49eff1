use Rattle.std.proofs.Common.{sym, ap, ◌∙◌}
use Rattle.al_decl_judged.specs.declared.heading.ReturnedPart.TheVariants.{Value}
use Rattle.al_tree.specs.DeclarationViews.{specification_model}
use Rattle.al_tree.specs.declared.declaration.Specification.{Specification}
use Rattle.al_decl.specs.Heads.{returned_read}
use Rattle.al_decl.proofs.heading.returned_at.Goals as goal

pub returns-in_ok-of-in-Function-clause-answered : goal.returns-in_ok-of-in-Function-clause-answered
returns-in_ok-of-in-Function-clause-answered g c t h =
    let answered = c.in_ok-of-in-Function.ensures.answered t h in
    let R = g.R.PartAnalyzer.reading c.args.analyzer.now t in
    (answered.0, ap Value answered.1 ∙ ap (λ (s : Specification). returned_read R c.args.scope.now (specification_model s)) (sym c.in-Function.is))
