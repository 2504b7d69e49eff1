use Rattle.std.proofs.Common.{Bool, ap, ◌∙◌}
use Rattle.al_decl.specs.Checking.{with_scope}
use Rattle.al_decl_judged.specs.declared.heading.Heading.{Heading}
use Rattle.al_scope.specs.Places.{Place}
use Rattle.al_tree.specs.DeclarationViews.{protected_operation_model}
use Rattle.al_decl_protected.specs.Operations.{is_entry_tree, operation_headed}
use Rattle.al_decl_protected.proofs.Inner.{stays_same, stays_then}
use Rattle.al_decl_protected.proofs.Outcomes.{if_ok, on_ok}
use Rattle.al_decl_protected.proofs.operation.check_operation.Goals as goal

pub returns-clause-answered : goal.returns-clause-answered
returns-clause-answered g c =
    let env = c.args.env.now in
    let object = c.args.object.now in
    let operations = c.args.operations.now in
    let o = protected_operation_model c.args.operation.now in
    let entry = c.is_entry_tree-is_entry in
    if_ok c.operation_headed.result _ _
    (λ checked answered t h.
    let known = answered t h in
    let heading = c.in_ok-heading.ensures.answered t known.0 in (
      heading.0,
      known.1
          ∙ ap (λ (p : Place). operation_headed t (with_scope env p) object entry.result c.in_ok-heading.heading operations) c.in_ok-heading.ensures.scope
          ∙ ap (λ (b : Bool). operation_headed t env object b c.in_ok-heading.heading operations) entry.ensures
          ∙ ap (λ (x : Heading). operation_headed t env object (is_entry_tree o) x operations) heading.1,
    ))
    c.operation_headed.ensures.answered

pub returns-clause-outer : goal.returns-clause-outer
returns-clause-outer g c =
    on_ok c.operation_headed.result _ _
    (λ outer. stays_then _ _ _ (stays_same _ _ c.in_ok-heading.ensures.scope) outer)
    c.operation_headed.ensures.outer
