use Rattle.std.proofs.Common.{ap, ◌∙◌}
use Rattle.al_decl_judged.specs.declared.names.DefiningName.{DefiningName}
use Rattle.al_tree.specs.DeclarationViews.{task_model}
use Rattle.al_decl_protected.specs.Tasks.{task_named}
use Rattle.al_decl_protected.proofs.Outcomes.{if_ok}
use Rattle.al_decl_protected.proofs.task.check_task.Goals as goal

pub returns-clause-answered : goal.returns-clause-answered
returns-clause-answered g c =
    let k = task_model c.args.task.now in
    if_ok c.task_named.result _ _
    (λ checked answered t agrees.
    let named = answered t agrees in
    let R = g.R.PartAnalyzer.reading c.args.analyzer.now t in
    (named.0, named.1 ∙ ap (λ (n : DefiningName). task_named R t c.args.env.now k.opening.line n k) c.in_ok-name.ensures))
    c.task_named.ensures.answered
