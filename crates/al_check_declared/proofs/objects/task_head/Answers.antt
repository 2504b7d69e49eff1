use Rattle.std.proofs.Common.{ap, ◌∙◌}
use Rattle.al_check_here.specs.declared.state.BodyRole.TheVariants as roles
use Rattle.al_decl_judged.specs.declared.specification.BodyHead.TheVariants as heads
use Rattle.al_decl_judged.specs.declared.names.DefiningName.{DefiningName}
use Rattle.al_check_declared.specs.ObjectsHere.{named_at, named_settled}
use Rattle.al_check_declared.proofs.Composed.{if_ok, named_same}
use Rattle.al_check_declared.proofs.objects.task_head.Goals as goal

pub returns-clause-answered : goal.returns-clause-answered
returns-clause-answered g c =
    if_ok c.settle_named.result _ _
    (λ effects settled t h.
    let answered = c.in_ok-checked.ensures.answered t h in
    let s = c.args.state.now in (
      answered.0,
      settled
          ∙ named_same s c.check_named_body.new.env roles.Task c.in_ok-name.name _
          ∙ ap (named_settled s roles.Task c.in_ok-name.name) answered.1
          ∙ ap (λ (n : DefiningName). named_settled s roles.Task n (named_at t s n heads.Task)) c.in_ok-name.ensures,
    ))
    c.settle_named.ensures
