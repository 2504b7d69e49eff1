use Rattle.al_engine_refresh.proofs.HandleLemmas.{on_ok}
use Rattle.al_engine_refresh.proofs.unit.check_anew.Goals as goal

pub returns-clause-made : goal.returns-clause-made
returns-clause-made g c =
    on_ok c.add_made.result _ _ (λ turned. (c.in_ok-entry.entry, c.in_ok-entry.ensures.keeps, c.in_ok-entry.ensures.current, turned)) c.add_made.ensures.turned
