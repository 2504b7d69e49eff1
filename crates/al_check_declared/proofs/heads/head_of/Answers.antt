use Rattle.std.proofs.Common.{ap, ◌∙◌}
use Rattle.al_check_declared.specs.HeadsHere.{head_settled}
use Rattle.al_check_declared.proofs.Composed.{head_same, if_ok}
use Rattle.al_check_declared.proofs.heads.head_of.Goals as goal

pub returns-clause-answered : goal.returns-clause-answered
returns-clause-answered g c =
    if_ok c.settle_head.result _ _
    (λ effects settled t h.
    let answered = c.in_ok-checked.ensures.answered t h in
    let s = c.args.state.now in (answered.0, settled ∙ head_same s c.body_at.new.env c.args.heading _ ∙ ap (head_settled s c.args.heading) answered.1))
    c.settle_head.ensures
