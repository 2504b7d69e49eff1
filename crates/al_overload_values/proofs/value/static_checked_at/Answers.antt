use Rattle.std.proofs.Common.{Result, ap, ◌∙◌}
use Rattle.al_base_fault.specs.Judging.{next, unless}
use Rattle.al_base_fault.specs.declared.fault.Fault.{Fault}
use Rattle.al_overload_nodes.specs.Static.{static_term_checked}
use Rattle.al_overload_values.specs.TextsAt.{With}
use Rattle.al_overload.specs.Terms.{TermTree}
use Rattle.al_overload_values.proofs.Composed.{if_ok}
use Rattle.al_overload_values.proofs.value.static_checked_at.Goals as goal

pub returns-clause-answered : goal.returns-clause-answered
returns-clause-answered g c =
    if_ok c.check_static.result _ _
    (λ checked is t h.
    let answered = c.in_ok-term.ensures.answered t h in
    let l = c.args.site.now.labeller.now in
    (answered.0, is ∙ ap (λ (r : Result (With TermTree) Fault). next r (λ (w : With TermTree). unless w.1 (static_term_checked l.predefined l.own c.args.context.now c.args.types.now w.1 w.0))) answered.1))
    c.check_static.ensures
