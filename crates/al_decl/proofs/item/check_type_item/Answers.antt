use Rattle.std.proofs.Common.{ap, ◌∙◌}
use Rattle.al_decl_judged.specs.declared.names.DefiningName.{DefiningName}
use Rattle.al_decl_judged.specs.declared.names.TypeName.{TypeName}
use Rattle.al_decl.specs.TypeNames.{type_name}
use Rattle.al_tree.specs.DeclarationViews.{type_model}
use Rattle.al_decl.specs.Items.{definition_checked}
use Rattle.al_decl.proofs.Outcomes.{if_ok}
use Rattle.al_decl.proofs.item.check_type_item.Goals as goal

pub returns-clause-answered : goal.returns-clause-answered
returns-clause-answered g c =
    if_ok c.check_definition.result _ _
    (λ checked answered t agrees.
    let known = answered t agrees in
    let R = g.R.PartAnalyzer.reading c.args.analyzer.now t in
    (known.0, known.1 ∙ ap (λ (n : TypeName). definition_checked R t c.args.env.now c.args.words n (type_model c.args.declaration.now).definition) (c.in_ok-name-2.ensures ∙ ap (type_name c.args.env.now) c.in_ok-name.ensures)))
    c.check_definition.ensures.answered
