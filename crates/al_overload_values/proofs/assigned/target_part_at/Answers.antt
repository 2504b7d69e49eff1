use Rattle.std.proofs.Common.{Result, ap, ◌∙◌}
use Rattle.al_base_fault.specs.Judging.{next}
use Rattle.al_base_fault.specs.declared.fault.Fault.{Fault}
use Rattle.al_overload.specs.Terms.{TermTree}
use Rattle.al_overload_values.proofs.Composed.{if_ok}
use Rattle.al_overload_nodes.specs.Variables.{target_part}
use Rattle.al_overload_values.proofs.assigned.target_part_at.Goals as goal

pub returns-clause-answered : goal.returns-clause-answered
returns-clause-answered g c =
    if_ok c.part_of_target.result _ _
    (λ checked is t h.
    let answered = c.in_ok-term.ensures.answered t h in
    (answered.0, is ∙ ap (λ (r : Result TermTree Fault). next r (target_part c.args.site.now.labeller.now.predefined)) answered.1))
    c.part_of_target.ensures
