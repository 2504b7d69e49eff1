use Rattle.std.proofs.Common.{Option, ap, ◌∙◌}
use Rattle.al_base_fault.specs.Faults.{earlier}
use Rattle.al_base_fault.specs.declared.fault.Fault.{Fault}
use Rattle.al_decl.specs.Placing.{head_duplicate}
use Rattle.al_decl_protected.specs.Operations.{second_entry}
use Rattle.al_decl_protected.proofs.operation.operation_fault.Goals as goal

pub returns-clause-answered : goal.returns-clause-answered
returns-clause-answered g c t h =
    let env = c.args.env.now in
    let head = c.args.heading.now in
    let homograph = c.in_ok-duplicate.ensures.answered t h in
    let second = second_entry c.args.is_entry head.name.place c.args.operations.now in (
      homograph.0,
      c.earlier-2.ensures
          ∙ ap (λ (d : Option Fault). earlier d c.in_ok-of_head.of_head)
          (c.earlier.ensures
          ∙ ap (λ (d : Option Fault). earlier d c.second_entry-second.result) homograph.1
          ∙ ap (λ (d : Option Fault). earlier (head_duplicate t env head) d) c.second_entry-second.ensures)
          ∙ ap (λ (d : Option Fault). earlier (earlier (head_duplicate t env head) second) d) c.in_ok-of_head.ensures,
    )
