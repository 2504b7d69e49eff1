use Rattle.std.proofs.Common.{Option, ap, ◌∙◌}
use Rattle.al_base_fault.specs.Judging.{unless}
use Rattle.al_base_fault.specs.declared.fault.Fault.{Fault}
use Rattle.al_check_here.specs.declared.state.BodyRole.TheVariants as roles
use Rattle.al_check_declared.specs.OpenObjects.{barrier_fault_here}
use Rattle.al_decl_judged.specs.declared.specification.BodyHead.TheVariants as heads
use Rattle.al_decl_judged.specs.declared.names.DefiningName.{DefiningName}
use Rattle.al_tree.specs.ExpressionViews.{expression_model}
use Rattle.al_check_declared.specs.ObjectsHere.{named_at, named_settled}
use Rattle.al_check_declared.proofs.Composed.{entry_made, if_ok, named_same}
use Rattle.al_check_declared.proofs.objects.entry_head.Goals as goal

pub returns-clause-answered : goal.returns-clause-answered
returns-clause-answered g c =
    if_ok c.settle_named.result _ _
    (λ effects settled t h.
    let answered = c.in_ok-checked.ensures.answered t h in
    let s = c.args.state.now in
    let e = c.check_named_body.new.env in
    let n = c.in_ok-name.name in
    let wrong = barrier_fault_here s (expression_model c.args.barrier.now) in (
      answered.0,
      settled
          ∙ named_same s e roles.Entry n _
          ∙ ap (named_settled s roles.Entry n) (entry_made e c.in_ok-wrong.wrong c.in_ok-checked.checked _ _ c.unless.ensures answered.1)
          ∙ ap (λ (f : Option Fault). named_settled s roles.Entry n (unless f (named_at t s n heads.Entry))) c.in_ok-wrong.ensures
          ∙ ap (λ (m : DefiningName). named_settled s roles.Entry m (unless wrong (named_at t s m heads.Entry))) c.in_ok-name.ensures,
    ))
    c.settle_named.ensures
