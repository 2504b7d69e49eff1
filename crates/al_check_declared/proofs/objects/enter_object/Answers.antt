use Rattle.std.proofs.Common.{map, ap, ◌∙◌}
use Rattle.al_decl_judged.specs.declared.specification.BodyHead.TheVariants as heads
use Rattle.al_decl_judged.specs.declared.names.DefiningName.{DefiningName}
use Rattle.al_decl_protected.specs.Bodies.{named_body}
use Rattle.al_tree.specs.StatementViews.{operation_bodies_of, operation_body_model}
use Rattle.al_check_declared.specs.ObjectsHere.{object_settled}
use Rattle.al_check_declared.proofs.Composed.{if_ok, object_same}
use Rattle.al_check_declared.proofs.objects.enter_object.Goals as goal

pub returns-clause-answered : goal.returns-clause-answered
returns-clause-answered g c =
    if_ok c.settle_object.result _ _
    (λ effects settled t h.
    let answered = c.in_ok-checked.ensures.answered t h in
    let s = c.args.state.now in
    let os = operation_bodies_of (map operation_body_model c.args.operations.now) in (
      answered.0,
      settled
          ∙ object_same s c.check_named_body.new.env os _
          ∙ ap (object_settled s os) answered.1
          ∙ ap (λ (n : DefiningName). object_settled s os (named_body t s.env c.args.line n heads.Protected)) c.in_ok-name.ensures,
    ))
    c.settle_object.ensures
