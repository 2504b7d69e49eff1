use Rattle.std.proofs.Common.{◌∙◌, sym, ap, List}
use Rattle.al_base.specs.declared.unit_key.UnitKey.{UnitKey}
use Rattle.al_query_store.specs.declared.cell.Cell.{Cell}
use Rattle.al_query_store.specs.Keyed.{State, state, under}
use Rattle.al_query_store.proofs.StateLemmas.{state-seen}
use Rattle.al_query_store.proofs.store.Store.settled.Goals as goal

pub returns : goal.returns
returns g c =
    let cells = c.self.inside.cells.entries in
    let s = c.self.inside.slots in
    let u = c.args.unit.now in
    c.held_in.ensures ∙ ap (λ (x : Cell). under s x.settled) c.cell_of-cell.ensures
    ∙ sym (ap (λ (x : State g.row.E.Denot). x.settled) (state-seen cells s u))
    ∙ ap (λ (l : List (UnitKey × State g.row.E.Denot)). (state l u).settled) c.self.view_is
