use Rattle.std.proofs.Common.{◌∙◌, Result, ap}
use Rattle.al_base_fault.specs.Judging.{map_ok}
use Rattle.al_base_fault.specs.declared.fault.Fault.{Fault}
use Rattle.al_view.specs.declared.view.SubtypeView.{SubtypeView}
use Rattle.al_scope_context.specs.UsesAt.{type_opened}
use Rattle.al_scope_context.proofs.clause.opened_type.Goals as goal

pub returns-clause-answered : goal.returns-clause-answered
returns-clause-answered g c t h =
    let answered = c.in_ok-mark.ensures.answered t h in
    (answered.0, c.in_ok-clause.ensures ∙ ap (λ (m : Result SubtypeView Fault). map_ok (type_opened c.args.scope.now c.args.packages.now) m) answered.1)
