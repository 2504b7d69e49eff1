use Rattle.std.proofs.Common.{◌∙◌, ap, List}
use Rattle.al_base.specs.declared.unit_key.UnitKey.{UnitKey}
use Rattle.al_query_store.specs.Keyed.{State, base_state, state}
use Rattle.al_query_store.proofs.MarkedLemmas.{cells-put_back, state-put_back}
use Rattle.al_query_store.proofs.store.Store.put_back_marks.Goals as goal

pub invariant_of-self : goal.invariant_of-self
invariant_of-self g c = cells-put_back c.self.inside.cells.entries c.self.inside.slots c.put_back_marks.new.self c.put_back_marks.ensures c.self.invariant

pub returns : goal.returns
returns g c u =
    state-put_back c.self.inside.cells.entries c.self.inside.slots c.put_back_marks.new.self c.put_back_marks.ensures u
    ∙ ap (λ (l : List (UnitKey × State g.row.E.Denot)). base_state (state l u)) c.self.view_is
