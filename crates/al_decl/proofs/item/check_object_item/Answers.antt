use Rattle.std.proofs.Common.{List, ap, ◌∙◌}
use Rattle.al_decl_judged.specs.declared.names.DefiningName.{DefiningName}
use Rattle.al_tree.specs.DeclarationViews.{object_model}
use Rattle.al_decl.specs.Items.{form_checked}
use Rattle.al_decl.proofs.Outcomes.{if_ok}
use Rattle.al_decl.proofs.item.check_object_item.Goals as goal

pub returns-clause-answered : goal.returns-clause-answered
returns-clause-answered g c =
    if_ok c.check_form.result _ _
    (λ checked answered t agrees.
    let known = answered t agrees in
    let R = g.R.PartAnalyzer.reading c.args.analyzer.now t in
    let o = object_model c.args.declaration.now in
    (known.0, known.1 ∙ ap (λ (ns : List DefiningName). form_checked R t c.args.env.now o.names.first.line ns o.form) (c.as_slice-names.ensures ∙ c.in_ok-names.ensures)))
    c.check_form.ensures.answered
