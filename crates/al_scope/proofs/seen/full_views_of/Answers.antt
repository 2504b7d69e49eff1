use Rattle.std.proofs.Common.{◌++◌, List, ap, ◌∙◌}
use Rattle.al_scope.specs.Recasts.{view_types}
use Rattle.al_scope.specs.Seen.{full_views}
use Rattle.al_scope.specs.declared.recast.Recast.{Recast}
use Rattle.al_scope.proofs.seen.full_views_of.Goals as goal

pub returns-clause-answered : goal.returns-clause-answered
returns-clause-answered g c t h =
    let answered = c.in_ok-add_of_view.ensures.answered t h in
    (answered.0, answered.1 ∙ ap (λ (rs : List Recast). rs ++ full_views t c.args.scope.now (view_types c.args.view.now)) c.empty-recasts.ensures)
