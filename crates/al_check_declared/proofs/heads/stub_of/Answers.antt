use Rattle.std.proofs.Common.{Option, ap, ◌∙◌}
use Rattle.al_base_fault.specs.declared.fault.Fault.{Fault}
use Rattle.al_check_declared.specs.HeadsHere.{body_at, stub_settled}
use Rattle.al_check_declared.proofs.Composed.{if_ok, stub_same}
use Rattle.al_check_declared.proofs.heads.stub_of.Goals as goal

pub returns-clause-answered : goal.returns-clause-answered
returns-clause-answered g c =
    if_ok c.settle_stub.result _ _
    (λ effects settled t h.
    let answered = c.in_ok-checked.ensures.answered t h in
    let s = c.args.state.now in
    let head = c.args.heading.now in (
      answered.0,
      settled
          ∙ stub_same s c.body_at.new.env head _
          ∙ ap (stub_settled s head) (answered.1 ∙ ap (λ (w : Option Fault). body_at t s.env c.args.line w head) c.in_ok-wrong.ensures),
    ))
    c.settle_stub.ensures
