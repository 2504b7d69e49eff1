use Rattle.std.proofs.Common.{Result, ap, ◌∙◌}
use Rattle.al_overload.specs.declared.part.Nominal.{Nominal}
use Rattle.al_base_fault.specs.Judging.{next}
use Rattle.al_base_fault.specs.declared.fault.Fault.{Fault}
use Rattle.al_overload_values.proofs.Composed.{asks_more, if_ok}
use Rattle.al_tree.specs.ExpressionViews.{expression_model}
use Rattle.al_overload_values.specs.Surroundings.{site_model, site_units}
use Rattle.al_overload_values.specs.ValuesAt.{source_checked}
use Rattle.al_overload_values.specs.Words.{with_words}
use Rattle.al_overload_values.proofs.assigned.source_at.Goals as goal

pub returns-clause-answered : goal.returns-clause-answered
returns-clause-answered g c =
    if_ok c.source_in.result _ _
    (λ checked answered t h.
    let later = answered t h in
    let first = c.in_ok-of.ensures.answered t later.0 in
    (first.0, later.1 ∙ ap (λ (of : Result Nominal Fault). with_words c.args.word.now (next of (source_checked t (site_model c.args.site.now) (expression_model c.args.value.now)))) first.1))
    c.source_in.ensures.answered

pub returns-clause-asks : goal.returns-clause-asks
returns-clause-asks g c =
    if_ok c.source_in.result _ _
    (λ checked asks. asks_more (site_units (site_model c.args.site.now)) _ _ _ c.in_ok-of.ensures.asks asks)
    c.source_in.ensures.asks
