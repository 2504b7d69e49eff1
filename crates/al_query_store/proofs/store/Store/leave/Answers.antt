use Rattle.std.proofs.Common.{◌≡◌, ◌∙◌, sym, ap, subst, refl, true, false, List, if◌then◌else◌}
use Rattle.al_base.specs.declared.unit_key.UnitKey.{UnitKey}
use Rattle.al_view.specs.Symbols.{same_unit}
use Rattle.al_query_store.specs.declared.cell.Cell.{Cell}
use Rattle.al_query_store.specs.Keyed.{State, state, leaving}
use Rattle.al_query_store.proofs.StateLemmas.{Turns, cells-same, state-turned, turned-there, there-cell}
use Rattle.al_query_store.proofs.store.Store.leave.Goals as goal
use Rattle.std.proofs.Common.{is_some}
use Rattle.al_query_store.specs.Units.{at_unit}

pub invariant_of-self : goal.invariant_of-self
invariant_of-self g c =
    let cells = c.self.inside.cells.entries in
    let s = c.self.inside.slots in
    let u = c.args.unit.now in
    let x : Cell → Cell = (λ (y : Cell). record { settled = y.settled; made = y.made; was_reached = y.was_reached; is_reached = false; leaves = true }) in
    let turns : Turns x u cells c.change.new.cells.entries = turned-there x _ u cells c.change.new.cells.entries (ap x c.cell_of-cell.ensures) c.change.ensures (there-cell cells s u (subst (λ (l : List (UnitKey × State g.row.E.Denot)). is_some (at_unit l u) ≡ true) (sym c.self.view_is) c.requires)) in
    cells-same x u cells c.change.new.cells.entries s (λ y. refl) (λ y. refl) turns c.self.invariant

pub returns : goal.returns
returns g c v =
    let cells = c.self.inside.cells.entries in
    let s = c.self.inside.slots in
    let u = c.args.unit.now in
    let x : Cell → Cell = (λ (y : Cell). record { settled = y.settled; made = y.made; was_reached = y.was_reached; is_reached = false; leaves = true }) in
    let turns : Turns x u cells c.change.new.cells.entries = turned-there x _ u cells c.change.new.cells.entries (ap x c.cell_of-cell.ensures) c.change.ensures (there-cell cells s u (subst (λ (l : List (UnitKey × State g.row.E.Denot)). is_some (at_unit l u) ≡ true) (sym c.self.view_is) c.requires)) in
    state-turned (leaving) x u cells c.change.new.cells.entries s s turns refl (λ w e. refl) v
    ∙ ap (λ (l : List (UnitKey × State g.row.E.Denot)). if same_unit u v then leaving (state l v) else state l v) c.self.view_is
