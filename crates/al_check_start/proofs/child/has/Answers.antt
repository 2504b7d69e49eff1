use Rattle.std.proofs.Common.{◌∙◌, List, ap, sym}
use Rattle.al_query.specs.Answers.{views_of}
use Rattle.al_view.specs.declared.view.ViewKind.{ViewKind}
use Rattle.al_check_start.specs.UnitsAt.{has_views}
use Rattle.al_check_start.proofs.child.has.Goals as goal

pub returns-clause-answered : goal.returns-clause-answered
returns-clause-answered g c t h =
    let answered = c.in_ok-answer.ensures.answered t h in
    (answered.0, c.has_views-has.ensures ∙ ap (λ (vs : List ViewKind). has_views vs) (c.views.ensures ∙ ap views_of (sym answered.1 ∙ ap t c.in_ok-query.ensures)))
