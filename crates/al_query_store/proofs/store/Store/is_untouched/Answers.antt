use Rattle.std.proofs.Common.{List, subst}
use Rattle.al_base.specs.declared.unit_key.UnitKey.{UnitKey}
use Rattle.al_query_store.specs.Changes.{AreMarkedAsBefore}
use Rattle.al_query_store.specs.Keyed.{State}
use Rattle.al_query_store.proofs.MarkedLemmas.{marked-before}
use Rattle.al_query_store.proofs.store.Store.is_untouched.Goals as goal

pub returns : goal.returns
returns g c is =
    subst (λ (l : List (UnitKey × State g.row.E.Denot)). AreMarkedAsBefore l) c.self.view_is
    (marked-before c.self.inside.cells.entries c.self.inside.slots (c.is_untouched.ensures is))
