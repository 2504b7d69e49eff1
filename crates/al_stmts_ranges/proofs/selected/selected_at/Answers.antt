use Rattle.std.proofs.Common.{Result, ap, ◌∙◌}
use Rattle.al_base_fault.specs.Judging.{next}
use Rattle.al_base_fault.specs.declared.fault.Fault.{Fault}
use Rattle.al_overload_nodes.specs.Ranges.{FoundTree}
use Rattle.al_stmts_ranges.specs.ChoicesAt.{choice_at}
use Rattle.al_overload_values.proofs.Composed.{asks_more, if_ok}
use Rattle.al_tree.specs.StatementViews.{choice_model}
use Rattle.al_overload_values.specs.Surroundings.{site_model, site_units}
use Rattle.al_stmts_ranges.proofs.selected.selected_at.Goals as goal

pub returns-clause-answered : goal.returns-clause-answered
returns-clause-answered g c =
    if_ok c.choice_of-checked.result _ _
    (λ checked answered t h.
    let later = answered t h in
    let first = c.in_ok-found.ensures.answered t later.0 in
    (first.0, later.1 ∙ ap (λ (r : Result FoundTree Fault). next r (λ (x : FoundTree). choice_at t (site_model c.args.site.now) x.found (choice_model c.args.choice.now))) first.1))
    c.choice_of-checked.ensures.answered

pub returns-clause-asks : goal.returns-clause-asks
returns-clause-asks g c =
    if_ok c.choice_of-checked.result _ _
    (λ checked asks. asks_more (site_units (site_model c.args.site.now)) _ _ _ c.in_ok-found.ensures.asks asks)
    c.choice_of-checked.ensures.asks
