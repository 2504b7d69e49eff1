use Rattle.std.proofs.Common.{ap, ◌∙◌}
use Rattle.al_decl.specs.Forms.{subtype_checked}
use Rattle.al_decl_judged.specs.declared.names.DefiningName.{DefiningName}
use Rattle.al_tree.specs.DeclarationViews.{subtype_model}
use Rattle.al_decl.proofs.Outcomes.{if_ok}
use Rattle.al_decl.proofs.item.check_subtype_item.Goals as goal

pub returns-clause-answered : goal.returns-clause-answered
returns-clause-answered g c =
    if_ok c.check_subtype.result _ _
    (λ checked answered t agrees.
    let known = answered t agrees in
    let R = g.R.PartAnalyzer.reading c.args.analyzer.now t in
    (known.0, known.1 ∙ ap (λ (n : DefiningName). subtype_checked R t c.args.env.now n (subtype_model c.args.declaration.now).indication) c.in_ok-name.ensures))
    c.check_subtype.ensures.answered
