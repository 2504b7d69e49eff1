use Rattle.std.proofs.Common.{◌++◌, List, ap, ◌∙◌}
use Rattle.al_view.specs.declared.types.TypeView.{TypeView}
use Rattle.al_scope.specs.Seen.{full_views, subtype_recast, subtype_seen_at}
use Rattle.al_scope.specs.declared.recast.Recast.{Recast}
use Rattle.al_scope.proofs.Outcomes.{if_ok}
use Rattle.al_scope.proofs.seen.subtype_seen_at.Goals as goal

pub returns-in-Ok-clause-answered : goal.returns-in-Ok-clause-answered
unfolding subtype_seen_at
returns-in-Ok-clause-answered g c =
    let place = c.args.scope.now in
    if_ok c.subtype_recast.result _ _
    (λ seen made t h.
    let answered = c.in-Ok.ensures.answered t h in (
      answered.0,
      made
          ∙ ap (λ (rs : List Recast). subtype_recast rs c.args.of)
          (c.as_slice-in-Ok.ensures ∙ answered.1 ∙ ap (λ (rs : List Recast). rs ++ full_views t place c.as_slice.result.now) c.empty-recasts.ensures ∙ ap (λ (ts : List TypeView). full_views t place ts) c.as_slice.ensures),
    ))
    c.subtype_recast.ensures

pub returns-in-Ok-clause-asks : goal.returns-in-Ok-clause-asks
returns-in-Ok-clause-asks g c = if_ok c.subtype_recast.result _ _ (λ seen made. c.in-Ok.ensures.asks) c.subtype_recast.ensures
