use Rattle.std.proofs.Common.{ap, ◌∙◌}
use Rattle.al_decl_judged.specs.declared.names.DefiningName.{DefiningName}
use Rattle.al_tree.specs.DeclarationViews.{protected_model}
use Rattle.al_decl_protected.specs.Objects.{object_named}
use Rattle.al_decl_protected.proofs.Outcomes.{if_ok}
use Rattle.al_decl_protected.proofs.object.check_protected.Goals as goal

pub returns-clause-answered : goal.returns-clause-answered
returns-clause-answered g c =
    let o = protected_model c.args.object.now in
    if_ok c.object_named.result _ _
    (λ checked answered t agrees.
    let named = answered t agrees in
    let R = g.R.PartAnalyzer.reading c.args.analyzer.now t in
    (named.0, named.1 ∙ ap (λ (n : DefiningName). object_named R t c.args.env.now c.args.line n o) c.in_ok-name.ensures))
    c.object_named.ensures.answered
