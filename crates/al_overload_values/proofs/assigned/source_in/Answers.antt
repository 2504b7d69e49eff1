use Rattle.std.proofs.Common.{Result, ap, ◌∙◌, sym}
use Rattle.al_overload.specs.declared.part.Nominal.{Nominal}
use Rattle.al_base_fault.specs.Judging.{next}
use Rattle.al_base_fault.specs.declared.fault.Fault.{Fault}
use Rattle.al_query.proofs.AskLemmas.{asks_none}
use Rattle.al_query.specs.Asked.{OfKnown, by_some_name}
use Rattle.al_overload_values.proofs.Composed.{if_ok}
use Rattle.al_tree.specs.ExpressionViews.{expression_model}
use Rattle.al_overload_values.specs.Surroundings.{site_model, site_units}
use Rattle.al_overload_values.specs.ValuesAt.{source_checked}
use Rattle.al_overload_values.specs.Words.{with_words}
use Rattle.al_overload_values.proofs.assigned.source_in.Goals as goal

pub returns-in-Ok-clause-answered : goal.returns-in-Ok-clause-answered
returns-in-Ok-clause-answered g c =
    if_ok c.source_of-checked.result _ _
    (λ checked answered t h.
    let read = answered t h in
    (read.0, read.1 ∙ ap (λ (of : Result Nominal Fault). with_words c.args.word.now (next of (source_checked t (site_model c.args.site.now) (expression_model c.args.value.now)))) (sym c.in-Ok.is)))
    c.source_of-checked.ensures.answered

pub returns-in-Err-clause-answered : goal.returns-in-Err-clause-answered
unfolding with_words
returns-in-Err-clause-answered g c t h =
    (h, ap (λ (of : Result Nominal Fault). with_words c.args.word.now (next of (source_checked t (site_model c.args.site.now) (expression_model c.args.value.now)))) (sym c.in-Err.is))

pub returns-in-Err-clause-asks : goal.returns-in-Err-clause-asks
returns-in-Err-clause-asks g c = asks_none (OfKnown (site_units (site_model c.args.site.now)) by_some_name) c.args.recorder.now.log
