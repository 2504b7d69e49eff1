use Rattle.std.proofs.Common.{◌∙◌, List, map, ap}
use Rattle.al_query.specs.declared.answer.Completion.{Completion}
use Rattle.al_query_outcome.specs.Left.{completed_views}
use Rattle.al_check_bounded.specs.Bounding.{bounded}
use Rattle.al_check_bounded.proofs.left.left_by_declaration.Goals as goal

pub returns-clause-answered : goal.returns-clause-answered
returns-clause-answered g c t h =
    let a = c.in_ok-answer.ensures.answered t h in
    (a.0, c.in_ok-views.ensures ∙ ap (λ (cs : List Completion). map (λ k. k.view) cs) c.completions.ensures ∙ ap completed_views (a.1 ∙ ap (bounded c.args.bounds.now t) c.in_ok-query.ensures))
