use Rattle.std.proofs.Common.{◌∙◌, List, Option, ap}
use Rattle.al_query.specs.Answers.{views_of}
use Rattle.al_query_outcome.specs.Left.{first_view, one_view}
use Rattle.al_view.specs.declared.view.ViewKind.{ViewKind}
use Rattle.al_check_bounded.proofs.left.first_within.Goals as goal

pub returns-clause-answered : goal.returns-clause-answered
returns-clause-answered g c t h =
    let a = c.in_ok-answer.ensures.answered t h in
    (a.0, c.in_ok-views.ensures ∙ ap (λ (o : Option ViewKind). one_view o) (c.in_ok-first.ensures ∙ ap (λ (vs : List ViewKind). first_view vs) (c.views.ensures ∙ ap views_of a.1)))
