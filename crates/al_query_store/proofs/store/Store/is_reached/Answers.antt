use Rattle.std.proofs.Common.{◌∙◌, sym, ap, List}
use Rattle.al_base.specs.declared.unit_key.UnitKey.{UnitKey}
use Rattle.al_query_store.specs.declared.cell.Cell.{Cell}
use Rattle.al_query_store.specs.Keyed.{State, state}
use Rattle.al_query_store.proofs.StateLemmas.{state-seen}
use Rattle.al_query_store.proofs.store.Store.is_reached.Goals as goal

pub returns : goal.returns
returns g c =
    let cells = c.self.inside.cells.entries in
    let s = c.self.inside.slots in
    let u = c.args.unit.now in
    ap (λ (x : Cell). x.is_reached) c.cell_of.ensures
    ∙ sym (ap (λ (x : State g.row.E.Denot). x.is_reached) (state-seen cells s u))
    ∙ ap (λ (l : List (UnitKey × State g.row.E.Denot)). (state l u).is_reached) c.self.view_is
