use Rattle.std.proofs.Common.{◌∙◌, ap}
use Rattle.al_query_store.specs.Keyed.{kept_state}
use Rattle.al_query_store.proofs.store.Store.settle.Goals as goal

pub returns : goal.returns
returns g c u = c.keep_marks.ensures u ∙ ap kept_state (c.settle_units.ensures u)
