use Rattle.std.proofs.Common.{ap, ◌∙◌}
use Rattle.al_overload.specs.declared.context.Context.{Context}
use Rattle.al_decl_ada.specs.SubtypesAt.{static_at}
use Rattle.al_overload_values.proofs.Composed.{if_ok}
use Rattle.al_tree.specs.DeclarationViews.{range_model}
use Rattle.al_overload_values.specs.Surroundings.{site_model}
use Rattle.al_decl_ada.proofs.constraint.constraint_of.Goals as goal

pub returns-clause-answered : goal.returns-clause-answered
returns-clause-answered g c =
    if_ok c.static_at.result _ _
    (λ checked answered t h.
    let read = answered t h in
    (read.0, read.1 ∙ ap (λ (context : Context). static_at t (site_model c.args.site.now) context c.args.mark.now.types (range_model c.args.range.now)) c.in_ok-context.ensures))
    c.static_at.ensures.answered
