use Rattle.std.proofs.Common.{sym, ap, ◌∙◌}
use Rattle.al_tree.specs.DeclarationViews.{object_form_model}
use Rattle.al_tree.specs.declared.declaration.ObjectForm.{ObjectForm}
use Rattle.al_decl.specs.Items.{form_checked}
use Rattle.al_decl.proofs.Outcomes.{if_ok}
use Rattle.al_decl.proofs.item.check_form.Goals as goal

pub returns-in-Typed-clause-answered : goal.returns-in-Typed-clause-answered
returns-in-Typed-clause-answered g c =
    if_ok c.check_objects.result _ _
    (λ checked answered t agrees.
    let known = answered t agrees in
    let R = g.R.PartAnalyzer.reading c.args.analyzer.now t in
    let h = c.args.env.now in
    (known.0, known.1 ∙ ap (λ (x : ObjectForm). form_checked R t h c.args.line c.args.names.now (object_form_model x)) (sym c.in-Typed.is)))
    c.check_objects.ensures.answered

pub returns-in-Number-clause-answered : goal.returns-in-Number-clause-answered
returns-in-Number-clause-answered g c =
    if_ok c.check_number.result _ _
    (λ checked answered t agrees.
    let known = answered t agrees in
    let R = g.R.PartAnalyzer.reading c.args.analyzer.now t in
    let h = c.args.env.now in
    (known.0, known.1 ∙ ap (λ (x : ObjectForm). form_checked R t h c.args.line c.args.names.now (object_form_model x)) (sym c.in-Number.is)))
    c.check_number.ensures.answered
