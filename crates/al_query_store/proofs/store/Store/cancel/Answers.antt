use Rattle.std.proofs.Common.{◌∙◌, ap}
use Rattle.al_query_store.specs.Keyed.{base_state}
use Rattle.al_query_store.proofs.store.Store.cancel.Goals as goal

pub returns : goal.returns
returns g c u = c.put_back_marks.ensures u ∙ ap base_state (c.cancel_units.ensures u)
