use Rattle.std.proofs.Common.{List, ap, ◌∙◌}
use Rattle.al_overload.specs.declared.context.Context.TheVariants as contexts
use Rattle.al_overload_values.proofs.Composed.{if_ok}
use Rattle.al_tree.specs.ExpressionViews.{expression_model}
use Rattle.al_overload_values.specs.Surroundings.{site_model}
use Rattle.al_overload_values.specs.ValuesAt.{static_checked_at}
use Rattle.al_view.specs.declared.types.TypeView.{TypeView}
use Rattle.al_decl_ada.proofs.value.priority_at.Goals as goal

pub returns-clause-answered : goal.returns-clause-answered
returns-clause-answered g c =
    if_ok c.static_checked_at.result _ _
    (λ checked answered t h.
    let read = answered t h in
    (read.0, read.1 ∙ ap (λ (types : List TypeView). static_checked_at t (site_model c.args.site.now) contexts.PriorityValue types (expression_model c.args.value.now)) c.in_ok-types.ensures))
    c.static_checked_at.ensures.answered
