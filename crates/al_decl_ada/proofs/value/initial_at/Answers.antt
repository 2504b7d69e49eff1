use Rattle.std.proofs.Common.{Some, ap, ◌∙◌}
use Rattle.al_overload.specs.Parts.{nominal}
use Rattle.al_overload.specs.declared.context.Context.{Context}
use Rattle.al_overload_values.proofs.Composed.{if_ok}
use Rattle.al_tree.specs.ExpressionViews.{expression_model}
use Rattle.al_overload_values.specs.Surroundings.{site_model}
use Rattle.al_overload_values.specs.ValuesAt.{checked_at}
use Rattle.al_decl_ada.proofs.value.initial_at.Goals as goal

pub returns-clause-answered : goal.returns-clause-answered
returns-clause-answered g c =
    if_ok c.value_of.result _ _
    (λ checked answered t h.
    let read = answered t h in
    (read.0, read.1 ∙ ap (λ (context : Context). checked_at t (site_model c.args.site.now) context (Some (nominal c.args.of.now.types c.args.of.now.subtype)) c.args.of.now.types (expression_model c.args.value.now)) c.in_ok-context.ensures))
    c.value_of.ensures.answered
