use Rattle.std.proofs.Common.{◌||◌, ◌∙◌, sym, ap, Bool, List, is_some}
use Rattle.al_base.specs.declared.unit_key.UnitKey.{UnitKey}
use Rattle.al_query_store.specs.declared.cell.Cell.{Cell}
use Rattle.al_query_store.specs.Keyed.{State, cell_at, differ, is_moved, state}
use Rattle.al_query_store.proofs.StateLemmas.{made-some, state-seen}
use Rattle.al_query_store.proofs.store.Store.has_moved.Goals as goal

pub returns : goal.returns
returns g c =
    let cells = c.self.inside.cells.entries in
    let s = c.self.inside.slots in
    let u = c.args.unit.now in
    let d = cell_at cells u in
    c.has_moved.ensures ∙ ap (λ (x : Cell). is_some x.made || x.leaves || differ x.was_reached x.is_reached) c.cell_of-cell.ensures
    ∙ ap (λ (b : Bool). b || d.leaves || differ d.was_reached d.is_reached) (sym (made-some cells s u c.self.invariant))
    ∙ sym (ap is_moved (state-seen cells s u))
    ∙ ap (λ (l : List (UnitKey × State g.row.E.Denot)). is_moved (state l u)) c.self.view_is
