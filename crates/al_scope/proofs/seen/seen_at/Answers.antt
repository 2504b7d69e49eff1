use Rattle.std.proofs.Common.{List, ap, ◌∙◌}
use Rattle.al_scope.specs.Recasts.{recast}
use Rattle.al_scope.specs.Seen.{seen_at}
use Rattle.al_scope.specs.declared.recast.Recast.{Recast}
use Rattle.al_scope.proofs.Outcomes.{if_ok}
use Rattle.al_scope.proofs.seen.seen_at.Goals as goal

pub returns-clause-answered : goal.returns-clause-answered
unfolding seen_at
returns-clause-answered g c =
    if_ok c.recast.result _ _
    (λ seen made t h.
    let answered = c.in_ok-recasts.ensures.answered t h in
    (answered.0, made ∙ ap (λ (rs : List Recast). recast rs c.args.view.now) (c.as_slice.ensures ∙ answered.1)))
    c.recast.ensures

pub returns-clause-asks : goal.returns-clause-asks
returns-clause-asks g c = if_ok c.recast.result _ _ (λ seen made. c.in_ok-recasts.ensures.asks) c.recast.ensures
