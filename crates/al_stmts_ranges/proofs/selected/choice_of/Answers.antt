use Rattle.std.proofs.Common.{Result, ap, ◌∙◌, sym}
use Rattle.al_base_fault.specs.Judging.{next, map_ok}
use Rattle.al_base_fault.specs.declared.fault.Fault.{Fault}
use Rattle.al_overload_nodes.specs.Ranges.{FoundTree}
use Rattle.al_overload_nodes.specs.RangesSeen.{found_model}
use Rattle.al_overload_nodes.specs.declared.range.DeterminedValue.{DeterminedValue}
use Rattle.al_query.proofs.AskLemmas.{asks_none}
use Rattle.al_query.specs.Asked.{OfKnown, by_some_name}
use Rattle.al_stmts_ranges.specs.ChoicesAt.{choice_at}
use Rattle.al_overload_values.proofs.Composed.{if_ok}
use Rattle.al_tree.specs.StatementViews.{choice_model}
use Rattle.al_overload_values.specs.Surroundings.{site_model, site_units}
use Rattle.al_stmts_ranges.proofs.selected.choice_of.Goals as goal

pub returns-in-Ok-clause-answered : goal.returns-in-Ok-clause-answered
returns-in-Ok-clause-answered g c =
    if_ok c.choice_at.result _ _
    (λ checked answered t h.
    let read = answered t h in
    (read.0, read.1 ∙ ap (λ (r : Result DeterminedValue Fault). next (map_ok found_model r) (λ (x : FoundTree). choice_at t (site_model c.args.site.now) x.found (choice_model c.args.choice.now))) (sym c.in-Ok.is)))
    c.choice_at.ensures.answered

pub returns-in-Err-clause-answered : goal.returns-in-Err-clause-answered
returns-in-Err-clause-answered g c t h =
    (h, ap (λ (r : Result DeterminedValue Fault). next (map_ok found_model r) (λ (x : FoundTree). choice_at t (site_model c.args.site.now) x.found (choice_model c.args.choice.now))) (sym c.in-Err.is))

pub returns-in-Err-clause-asks : goal.returns-in-Err-clause-asks
returns-in-Err-clause-asks g c = asks_none (OfKnown (site_units (site_model c.args.site.now)) by_some_name) c.args.recorder.now.log
