use Rattle.std.proofs.Common.{List, map, sym, ap, ◌∙◌}
use Rattle.al_decl.specs.declared.env.Environment.{Environment}
use Rattle.al_tree.specs.DeclarationViews.{protected_model, protected_operation_model}
use Rattle.al_tree.specs.declared.declaration.ProtectedOperation.{ProtectedOperation}
use Rattle.al_decl_protected.specs.Checks.{listed, parts_model}
use Rattle.al_decl_protected.specs.Components.{private_model}
use Rattle.al_decl_protected.specs.Operations.{operations_checked}
use Rattle.al_decl_protected.proofs.Inner.{stays_then}
use Rattle.al_decl_protected.proofs.Inside.{inside_then, inside_wrong}
use Rattle.al_decl_protected.proofs.Outcomes.{if_ok, on_ok}
use Rattle.al_decl_protected.proofs.object.check_parts.Goals as goal

pub returns-in-Ok-clause-answered : goal.returns-in-Ok-clause-answered
returns-in-Ok-clause-answered g c =
    let env = c.args.env.now in
    let symbol = c.args.symbol.now in
    let before = parts_model c.args.parts.now in
    let middle = c.check_operations.new.env in
    let operations = c.check_operations.new.operations in
    if_ok c.check_private.result _ _
    (λ checked answered t h.
    let private = answered t h in
    let first = c.in_ok-check_operations.ensures.answered t private.0 in
    let R = g.R.PartAnalyzer.reading c.args.analyzer.now t in
    let right = ap (listed middle operations) (sym c.in-Ok.is) ∙ first.1 ∙ ap (λ (l : List ProtectedOperation). operations_checked R t env symbol before.operations (map protected_operation_model l)) c.as_slice-texts.ensures.value in (
      first.0,
      inside_then R t env middle symbol before (protected_model c.args.object.now) _ operations (private_model c.check_private.new.components) checked (ap (λ (e : Environment). e.progress) c.check_private.ensures.rest) private.1 right,
    ))
    c.check_private.ensures.answered

pub returns-in-Ok-clause-outer : goal.returns-in-Ok-clause-outer
returns-in-Ok-clause-outer g c =
    on_ok c.check_private.result _ _
    (λ outer. stays_then _ _ _ c.in_ok-check_operations.ensures.outer outer)
    c.check_private.ensures.outer

pub returns-in-Err-clause-answered : goal.returns-in-Err-clause-answered
returns-in-Err-clause-answered g c t h =
    let env = c.args.env.now in
    let symbol = c.args.symbol.now in
    let before = parts_model c.args.parts.now in
    let first = c.in_ok-check_operations.ensures.answered t h in
    let R = g.R.PartAnalyzer.reading c.args.analyzer.now t in
    let wrong = ap (listed c.check_operations.new.env c.check_operations.new.operations) (sym c.in-Err.is) ∙ first.1 ∙ ap (λ (l : List ProtectedOperation). operations_checked R t env symbol before.operations (map protected_operation_model l)) c.as_slice-texts.ensures.value in
    (first.0, inside_wrong R t env symbol before (protected_model c.args.object.now) c.in-Err.fault wrong)
