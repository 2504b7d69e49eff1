use Rattle.std.proofs.Common.{◌∙◌, sym, ap, ℕ, None, List, Option, if◌then◌else◌}
use Rattle.al_base.specs.declared.unit_key.UnitKey.{UnitKey}
use Rattle.al_query_store.specs.Keyed.{State, entry_of, first_of, now_at, now_key, under}
use Rattle.al_query_store.proofs.StateLemmas.{entry-now, state-seen}
use Rattle.al_query_store.proofs.store.Store.get.Goals as goal

pub returns : goal.returns
returns g c =
    let cells = c.self.inside.cells.entries in
    let s = c.self.inside.slots in
    let u = c.args.unit.now in
    c.entry_in.ensures ∙ ap (λ (o : Option ℕ). entry_of (under s o)) (c.now_key.ensures ∙ ap now_key c.cell_of-cell.ensures)
    ∙ entry-now cells s u c.self.invariant
    ∙ sym (ap (λ (x : State g.row.E.Denot). if x.is_reached then first_of (entry_of x.made) (entry_of x.settled) else None) (state-seen cells s u))
    ∙ ap (λ (l : List (UnitKey × State g.row.E.Denot)). now_at l u) c.self.view_is
