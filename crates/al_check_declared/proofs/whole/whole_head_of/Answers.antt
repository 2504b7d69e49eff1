use Rattle.std.proofs.Common.{None, ap, ◌∙◌}
use Rattle.al_decl_judged.specs.Bodies.{body_declared}
use Rattle.al_decl_judged.specs.declared.body.Completing.{Completing}
use Rattle.al_check_declared.specs.WholeHere.{whole_settled}
use Rattle.al_check_declared.proofs.Composed.{if_ok, whole_same}
use Rattle.al_check_declared.proofs.whole.whole_head_of.Goals as goal

pub returns : goal.returns
returns c =
    let s = c.args.state.now in
    let head = c.args.heading in
    if_ok c.settle_whole.result _ _
    (λ effects settled.
    settled
    ∙ whole_same s c.declare_body.new.progress c.declare_body.new.uncompleted head _
    ∙ ap (whole_settled s head) (c.in_ok-checked.ensures ∙ ap (λ (x : Completing). body_declared s.env.progress s.env.uncompleted c.args.line None head x) c.in_ok-completes.ensures.found))
    c.settle_whole.ensures
