use Rattle.std.proofs.Common.{◌≡◌, ap, subst, sym}
use Rattle.al_query.proofs.AskLemmas.{asks_none}
use Rattle.al_query.specs.Asked.{OfKnown, by_some_name}
use Rattle.al_stmts_ranges.specs.ChoicesAt.{choice_at}
use Rattle.al_overload_values.proofs.Composed.{if_ok}
use Rattle.al_tree.specs.StatementViews.{choice_model}
use Rattle.al_tree.specs.declared.statement.Choice.{Choice}
use Rattle.al_overload_values.specs.Surroundings.{site_model, site_units}
use Rattle.al_stmts_ranges.proofs.choice.choice_at.Goals as goal

pub returns-in-Others-clause-answered : goal.returns-in-Others-clause-answered
returns-in-Others-clause-answered g c t h = (h, ap (λ (x : Choice). choice_at t (site_model c.args.site.now) c.args.found.now (choice_model x)) (sym c.in-Others.is))

pub returns-in-Others-clause-asks : goal.returns-in-Others-clause-asks
returns-in-Others-clause-asks g c = asks_none (OfKnown (site_units (site_model c.args.site.now)) by_some_name) c.args.recorder.now.log

pub returns-in-Range-clause-answered : goal.returns-in-Range-clause-answered
returns-in-Range-clause-answered g c =
    if_ok c.discrete_choice.result _ _
    (λ checked answered t h.
    let read = answered t h in
    (read.0, subst (λ (x : Choice). checked ≡ choice_at t (site_model c.args.site.now) c.args.found.now (choice_model x)) (sym c.in-Range.is) read.1))
    c.discrete_choice.ensures.answered
