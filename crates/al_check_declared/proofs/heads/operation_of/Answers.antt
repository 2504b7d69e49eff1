use Rattle.std.proofs.Common.{ap, ◌∙◌}
use Rattle.al_check_declared.specs.ObjectsHere.{operation_settled}
use Rattle.al_check_declared.proofs.Composed.{operation_same, if_ok}
use Rattle.al_check_declared.proofs.heads.operation_of.Goals as goal

pub returns-clause-answered : goal.returns-clause-answered
returns-clause-answered g c =
    if_ok c.settle_operation.result _ _
    (λ effects settled t h.
    let answered = c.in_ok-checked.ensures.answered t h in
    let s = c.args.state.now in (answered.0, settled ∙ operation_same s c.operation_at.new.env c.args.heading _ ∙ ap (operation_settled s c.args.heading) answered.1))
    c.settle_operation.ensures
