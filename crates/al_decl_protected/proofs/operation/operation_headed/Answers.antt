use Rattle.std.proofs.Common.{List, Option, sym, ap, ◌∙◌}
use Rattle.al_base_fault.specs.Judging.{unless}
use Rattle.al_base_fault.specs.declared.fault.Fault.{Fault}
use Rattle.al_view.specs.declared.view.Operation.{Operation}
use Rattle.al_decl_protected.specs.Operations.{operation_added, operation_fault}
use Rattle.al_decl_protected.proofs.Added.{added_outer, right}
use Rattle.al_decl_protected.proofs.operation.operation_headed.Goals as goal

pub returns-in-Some-clause-answered : goal.returns-in-Some-clause-answered
returns-in-Some-clause-answered g c t h =
    let env = c.args.env.now in
    let head = c.args.heading.now in
    let fault = c.in_ok-fault.ensures.answered t h in
    let added = operation_added env c.args.object.now c.args.is_entry head c.args.operations.now in (
      fault.0,
      ap (λ (d : Option Fault). unless d (right added))
          (sym c.in-Some.is ∙ fault.1 ∙ ap (λ (os : List Operation). operation_fault t env c.args.is_entry head os) c.as_slice-before.ensures),
    )

pub returns-in_ok-add_operation-in-None-clause-answered : goal.returns-in_ok-add_operation-in-None-clause-answered
returns-in_ok-add_operation-in-None-clause-answered g c t h =
    let env = c.args.env.now in
    let head = c.args.heading.now in
    let fault = c.in_ok-fault.ensures.answered t h in
    let added = operation_added env c.args.object.now c.args.is_entry head c.args.operations.now in (
      fault.0,
      ap right c.in_ok-add_operation-in-None.ensures.made
          ∙ ap (λ (d : Option Fault). unless d (right added))
          (sym c.in-None.is ∙ fault.1 ∙ ap (λ (os : List Operation). operation_fault t env c.args.is_entry head os) c.as_slice-before.ensures),
    )

pub returns-in_ok-add_operation-in-None-clause-outer : goal.returns-in_ok-add_operation-in-None-clause-outer
returns-in_ok-add_operation-in-None-clause-outer g c =
    added_outer c.args.env.now c.add_operation.new.env c.args.object.now c.args.is_entry c.args.heading.now c.args.operations.now c.add_operation.new.operations c.in_ok-add_operation-in-None.ensures.made
