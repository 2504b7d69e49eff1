use Rattle.std.proofs.Common.{◌∙◌, ap, List}
use Rattle.al_base.specs.declared.unit_key.UnitKey.{UnitKey}
use Rattle.al_query_store.specs.Keyed.{State, kept_state, state}
use Rattle.al_query_store.proofs.MarkedLemmas.{cells-kept, state-kept}
use Rattle.al_query_store.proofs.store.Store.keep_marks.Goals as goal

pub invariant_of-self : goal.invariant_of-self
invariant_of-self g c = cells-kept c.self.inside.cells.entries c.self.inside.slots c.keep_marks.new.self c.keep_marks.ensures c.self.invariant

pub returns : goal.returns
returns g c u =
    state-kept c.self.inside.cells.entries c.self.inside.slots c.keep_marks.new.self c.keep_marks.ensures u
    ∙ ap (λ (l : List (UnitKey × State g.row.E.Denot)). kept_state (state l u)) c.self.view_is
