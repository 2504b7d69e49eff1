use Rattle.std.proofs.Common.{Option, Result, sym, ap, ◌∙◌}
use Rattle.al_base_fault.specs.declared.fault.Fault.{Fault}
use Rattle.al_view_typed.specs.DeclarationTrees.{DeclarationTree}
use Rattle.al_decl.specs.Checking.{at_place}
use Rattle.al_decl.specs.Forms.{array_checked, integer_checked}
use Rattle.al_tree.specs.DeclarationViews.{array_model, range_model, type_definition_model}
use Rattle.al_tree.specs.declared.declaration.ArrayDefinition.{ArrayDefinition}
use Rattle.al_tree.specs.declared.declaration.Range.{Range}
use Rattle.al_tree.specs.declared.declaration.TypeDefinition.{TypeDefinition}
use Rattle.al_decl.specs.Items.{definition_checked}
use Rattle.al_decl.proofs.Outcomes.{if_ok}
use Rattle.al_decl.proofs.item.check_definition.Goals as goal

pub returns-in-Integer-clause-answered : goal.returns-in-Integer-clause-answered
returns-in-Integer-clause-answered g c =
    if_ok c.check_integer.result _ _
    (λ checked answered t agrees.
    let known = answered t agrees in
    let R = g.R.PartAnalyzer.reading c.args.analyzer.now t in
    let h = c.args.env.now in
    (known.0, known.1 ∙ ap (λ (r : Range). integer_checked R t h c.args.name.now (range_model r)) c.deref.ensures ∙ ap (λ (x : TypeDefinition). definition_checked R t h c.args.words c.args.name.now (type_definition_model x)) (sym c.in-Integer.is)))
    c.check_integer.ensures.answered

pub returns-in-NullRecord-clause-answered : goal.returns-in-NullRecord-clause-answered
returns-in-NullRecord-clause-answered g c =
    if_ok c.check_null_record.result _ _
    (λ checked answered t agrees.
    let known = answered t agrees in
    let R = g.R.PartAnalyzer.reading c.args.analyzer.now t in
    let h = c.args.env.now in
    (known.0, known.1 ∙ ap (λ (x : TypeDefinition). definition_checked R t h c.args.words c.args.name.now (type_definition_model x)) (sym c.in-NullRecord.is)))
    c.check_null_record.ensures.answered

pub returns-in-Enumeration-clause-answered : goal.returns-in-Enumeration-clause-answered
returns-in-Enumeration-clause-answered g c =
    if_ok c.check_literals.result _ _
    (λ checked answered t agrees.
    let known = answered t agrees in
    let R = g.R.PartAnalyzer.reading c.args.analyzer.now t in
    let h = c.args.env.now in
    (known.0, known.1 ∙ ap (λ (x : TypeDefinition). definition_checked R t h c.args.words c.args.name.now (type_definition_model x)) (sym c.in-Enumeration.is)))
    c.check_literals.ensures.answered

pub returns-in-Array-clause-answered : goal.returns-in-Array-clause-answered
returns-in-Array-clause-answered g c =
    if_ok c.check_array.result _ _
    (λ checked answered t agrees.
    let known = answered t agrees in
    let R = g.R.PartAnalyzer.reading c.args.analyzer.now t in
    let h = c.args.env.now in
    (known.0, known.1 ∙ ap (λ (a : ArrayDefinition). array_checked R t h c.args.name.now (array_model a)) c.deref-in-Array.ensures ∙ ap (λ (x : TypeDefinition). definition_checked R t h c.args.words c.args.name.now (type_definition_model x)) (sym c.in-Array.is)))
    c.check_array.ensures.answered

pub returns-in-Record-clause-answered : goal.returns-in-Record-clause-answered
returns-in-Record-clause-answered g c =
    if_ok c.check_record_type.result _ _
    (λ checked answered t agrees.
    let known = answered t agrees in
    let R = g.R.PartAnalyzer.reading c.args.analyzer.now t in
    let h = c.args.env.now in
    (known.0, known.1 ∙ ap (λ (x : TypeDefinition). definition_checked R t h c.args.words c.args.name.now (type_definition_model x)) (sym c.in-Record.is)))
    c.check_record_type.ensures.answered

pub returns-in-Private-clause-answered : goal.returns-in-Private-clause-answered
returns-in-Private-clause-answered g c =
    if_ok c.check_private_item.result _ _
    (λ checked answered t agrees.
    let known = answered t agrees in
    let R = g.R.PartAnalyzer.reading c.args.analyzer.now t in
    let h = c.args.env.now in
    (known.0, known.1 ∙ ap (λ (x : TypeDefinition). definition_checked R t h c.args.words c.args.name.now (type_definition_model x)) (sym c.in-Private.is)))
    c.check_private_item.ensures.answered
