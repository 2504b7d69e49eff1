use Rattle.std.proofs.Common.{Some, ap, ◌∙◌}
use Rattle.al_overload.specs.declared.part.Nominal.{Nominal}
use Rattle.al_overload_values.proofs.Composed.{if_ok}
use Rattle.al_tree.specs.ExpressionViews.{expression_model}
use Rattle.al_overload_values.specs.Surroundings.{site_model}
use Rattle.al_overload_values.specs.ValuesAt.{value_at}
use Rattle.al_overload_values.proofs.assigned.value_of.Goals as goal

pub returns-clause-answered : goal.returns-clause-answered
returns-clause-answered g c =
    if_ok c.value_at.result _ _
    (λ checked answered t h.
    let read = answered t h in
    (read.0, read.1 ∙ ap (λ (of : Nominal). value_at t (site_model c.args.site.now) c.args.context.now (Some of) c.args.of.now.types (expression_model c.args.value.now) c.args.word.now) c.in_ok-nominal.ensures))
    c.value_at.ensures.answered
