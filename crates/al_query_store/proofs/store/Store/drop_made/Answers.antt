use Rattle.std.proofs.Common.{◌≡◌, ◌∙◌, sym, ap, subst, refl, ℕ, Some, None, List, Option, if◌then◌else◌}
use Rattle.al_base.specs.declared.unit_key.UnitKey.{UnitKey}
use Rattle.al_view.specs.Symbols.{same_unit}
use Rattle.al_query_store.specs.declared.slots.Held.{Held}
use Rattle.al_query_store.specs.declared.cell.Cell.{Cell}
use Rattle.al_query_store.specs.Keyed.{Changes, State, cell_at, made_key, seen, state, under, with_slots, without_made}
use Rattle.al_query_store.proofs.StateLemmas.{state-seen, Turns, after, cells-without_made, settled-stays, seen-without_made, state-turned, turned, unchanged}
use Rattle.al_query_store.proofs.store.Store.drop_made.Goals as goal

pub returns-in_default : goal.returns-in_default
returns-in_default g c =
    let cells = c.self.inside.cells.entries in
    let s = c.self.inside.slots in
    let u = c.args.unit.now in
    let none : (cell_at cells u).made ≡ None = sym (ap (λ (x : Cell). x.made) c.cell_of-cell.ensures) ∙ c.in_default.is in
    let set : Option (Held g.row.E.Denot) → State g.row.E.Denot = λ o. record { settled = under s (cell_at cells u).settled; made = o; was_reached = (cell_at cells u).was_reached; is_reached = (cell_at cells u).is_reached; leaves = (cell_at cells u).leaves } in
    let same : without_made (seen s (cell_at cells u)) ≡ seen s (cell_at cells u) = ap (λ (o : Option ℕ). set (under s o)) (sym none) in
    subst (λ (l : List (UnitKey × State g.row.E.Denot)). Changes without_made u l l) c.self.view_is
    (unchanged without_made u (with_slots cells s) (ap without_made (state-seen cells s u) ∙ same ∙ sym (state-seen cells s u)))

pub invariant_of-self : goal.invariant_of-self
invariant_of-self g c =
    let cells = c.self.inside.cells.entries in
    let s = c.self.inside.slots in
    let t = c.remove.new.self in
    let u = c.args.unit.now in
    let k = c.in-Some.key in
    let x : Cell → Cell = (λ (y : Cell). record { settled = y.settled; made = None; was_reached = y.was_reached; is_reached = y.is_reached; leaves = y.leaves }) in
    let turns : Turns x u cells c.change.new.cells.entries = turned x _ u cells c.change.new.cells.entries (ap x c.cell_of-cell.ensures) c.change.ensures refl in
    let there : made_key cells u ≡ Some k = sym (ap (λ (y : Cell). y.made) c.cell_of-cell.ensures) ∙ c.in-Some.is in
    cells-without_made x u cells c.change.new.cells.entries s t k c.self.invariant turns (after s t k None c.remove.ensures) (λ y. refl) (λ y. refl) there

pub returns : goal.returns
returns g c v =
    let cells = c.self.inside.cells.entries in
    let s = c.self.inside.slots in
    let t = c.remove.new.self in
    let u = c.args.unit.now in
    let k = c.in-Some.key in
    let x : Cell → Cell = (λ (y : Cell). record { settled = y.settled; made = None; was_reached = y.was_reached; is_reached = y.is_reached; leaves = y.leaves }) in
    let turns : Turns x u cells c.change.new.cells.entries = turned x _ u cells c.change.new.cells.entries (ap x c.cell_of-cell.ensures) c.change.ensures refl in
    let there : made_key cells u ≡ Some k = sym (ap (λ (y : Cell). y.made) c.cell_of-cell.ensures) ∙ c.in-Some.is in
    let slots = after s t k None c.remove.ensures in
    let set : Option (Held g.row.E.Denot) → State g.row.E.Denot = λ o. record { settled = o; made = None; was_reached = (cell_at cells u).was_reached; is_reached = (cell_at cells u).is_reached; leaves = (cell_at cells u).leaves } in
    let here : seen t (x (cell_at cells u)) ≡ without_made (seen s (cell_at cells u)) = ap set (settled-stays x u cells c.change.new.cells.entries s t k c.self.invariant turns slots (λ y. refl) (λ y. refl) there) in
    state-turned without_made x u cells c.change.new.cells.entries s t turns here (seen-without_made x u cells c.change.new.cells.entries s t k c.self.invariant turns slots (λ y. refl) (λ y. refl) there) v
    ∙ ap (λ (l : List (UnitKey × State g.row.E.Denot)). if same_unit u v then without_made (state l v) else state l v) c.self.view_is
