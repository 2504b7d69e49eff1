use Rattle.std.proofs.Common.{◌∙◌, Option, is_some, ap}
use Rattle.al_query.specs.Answers.{own_view_of}
use Rattle.al_view.specs.declared.view.ViewKind.{ViewKind}
use Rattle.al_check_bounded.specs.Bounding.{bounded}
use Rattle.al_check_bounded.proofs.left.has_view.Goals as goal

pub returns-clause-answered : goal.returns-clause-answered
returns-clause-answered g c t h =
    let a = c.in_ok-answer.ensures.answered t h in
    (a.0, c.is_there.ensures ∙ ap (λ (o : Option ViewKind). is_some o) (c.own_view.ensures ∙ ap own_view_of (a.1 ∙ ap (bounded c.args.bounds.now t) c.in_ok-query.ensures)))
