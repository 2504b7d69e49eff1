use Rattle.std.proofs.Common.{◌≡◌, ◌∙◌, sym, ap, refl, true, Some, None, List, Option, if◌then◌else◌}
use Rattle.al_base.specs.declared.unit_key.UnitKey.{UnitKey}
use Rattle.al_view.specs.Symbols.{same_unit}
use Rattle.al_query_store.specs.Stored.{fresh}
use Rattle.al_query_store.specs.declared.slots.Held.{Held}
use Rattle.al_query_store.specs.declared.cell.Cell.{Cell}
use Rattle.al_query_store.specs.Keyed.{State, cell_at, made_key, seen, state, under, with_slots}
use Rattle.al_query_store.proofs.StateLemmas.{state-seen, Turns, after, cells-with_made, here-stored, made-apart, no-made-key, seen-with_made, settled-apart, state-turned, turned-there}
use Rattle.al_query_store.specs.Changes.{with_made}
use Rattle.al_query_store.proofs.MarkedLemmas.{cells-alike, on_err, states-alike}
use Rattle.al_query_store.proofs.store.Store.make.Goals as goal

pub invariant_of-self-2 : goal.invariant_of-self-2
invariant_of-self-2 g c =
    let log = g.E.Logged.log in
    let cells = c.self.inside.cells.entries in
    let added = c.add.new.cells.entries in
    let new = c.change.new.cells.entries in
    let s = c.self.inside.slots in
    let t = c.insert.new.self in
    let u = c.args.unit.now in
    let k = c.in_ok-key.key in
    let h : Held g.row.E.Denot = fresh log c.args.entry in
    let x : Cell → Cell = (λ (y : Cell). record { settled = y.settled; made = Some k; was_reached = y.was_reached; is_reached = true; leaves = y.leaves }) in
    let is = cells-alike cells added s s c.add.ensures.cells (λ y. refl) c.self.invariant in
    let slots = after s t k (Some h) c.in_ok-key.ensures.ok in
    let vacant = c.in_ok-key.ensures.vacant in
    let turns : Turns x u added new = turned-there x _ u added new (ap x c.cell_of-cell.ensures) c.change.ensures c.in_ok-add.ensures.there in
    let was : state (with_slots added s) u ≡ state (with_slots cells s) u = states-alike cells added s s c.add.ensures.cells (λ y. refl) u in
    let none : under s (made_key added u) ≡ None = sym (ap (λ (x : State g.row.E.Denot). x.made) (state-seen added s u)) ∙ ap (λ (x : State g.row.E.Denot). x.made) was ∙ ap (λ (l : List (UnitKey × State g.row.E.Denot)). (state l u).made) c.self.view_is ∙ c.requires in
    let no_key = no-made-key added s u is none in
    cells-with_made x u added new s t k h is turns slots vacant refl (λ y. refl) (λ y. refl) no_key

pub returns-clause-ok : goal.returns-clause-ok
returns-clause-ok g c v =
    let log = g.E.Logged.log in
    let cells = c.self.inside.cells.entries in
    let added = c.add.new.cells.entries in
    let new = c.change.new.cells.entries in
    let s = c.self.inside.slots in
    let t = c.insert.new.self in
    let u = c.args.unit.now in
    let k = c.in_ok-key.key in
    let h : Held g.row.E.Denot = fresh log c.args.entry in
    let x : Cell → Cell = (λ (y : Cell). record { settled = y.settled; made = Some k; was_reached = y.was_reached; is_reached = true; leaves = y.leaves }) in
    let is = cells-alike cells added s s c.add.ensures.cells (λ y. refl) c.self.invariant in
    let slots = after s t k (Some h) c.in_ok-key.ensures.ok in
    let vacant = c.in_ok-key.ensures.vacant in
    let turns : Turns x u added new = turned-there x _ u added new (ap x c.cell_of-cell.ensures) c.change.ensures c.in_ok-add.ensures.there in
    let was : state (with_slots added s) u ≡ state (with_slots cells s) u = states-alike cells added s s c.add.ensures.cells (λ y. refl) u in
    let none : under s (made_key added u) ≡ None = sym (ap (λ (x : State g.row.E.Denot). x.made) (state-seen added s u)) ∙ ap (λ (x : State g.row.E.Denot). x.made) was ∙ ap (λ (l : List (UnitKey × State g.row.E.Denot)). (state l u).made) c.self.view_is ∙ c.requires in
    let no_key = no-made-key added s u is none in
    let apart_settled = settled-apart x u added new s t k h is turns slots vacant refl in
    let apart_made = made-apart x u added new s t k h is turns slots vacant refl in
    let same : (w : UnitKey) → seen t (cell_at added w) ≡ seen s (cell_at added w) = λ w. seen-with_made x u added new s t k h is turns slots vacant refl (cell_at added w) (apart_settled w) (apart_made w) in
    let set : Option (Held g.row.E.Denot) → State g.row.E.Denot = λ o. record { settled = under t (cell_at added u).settled; made = o; was_reached = (cell_at added u).was_reached; is_reached = true; leaves = (cell_at added u).leaves } in
    let here : seen t (x (cell_at added u)) ≡ with_made log c.args.entry (seen s (cell_at added u)) =
    ap set (here-stored x u added new s t k h is turns slots vacant refl) ∙ ap (with_made log c.args.entry) (same u) in
    state-turned (with_made log c.args.entry) x u added new s t turns here (λ w e. same w) v
    ∙ ap (λ (y : State g.row.E.Denot). if same_unit u v then with_made log c.args.entry y else y) (states-alike cells added s s c.add.ensures.cells (λ y. refl) v ∙ ap (λ (l : List (UnitKey × State g.row.E.Denot)). state l v) c.self.view_is)

pub returns-in_err-add-clause-err : goal.returns-in_err-add-clause-err
returns-in_err-add-clause-err g c =
    let cells = c.self.inside.cells.entries in
    let s = c.self.inside.slots in
    on_err c.from_residual.result (λ v. states-alike cells c.add.new.cells.entries s s c.add.ensures.cells (λ y. refl) v ∙ ap (λ (l : List (UnitKey × State g.row.E.Denot)). state l v) c.self.view_is)

pub returns-in_err-key-clause-err : goal.returns-in_err-key-clause-err
returns-in_err-key-clause-err g c =
    let cells = c.self.inside.cells.entries in
    on_err c.from_residual-in_err-key.result (λ v. states-alike cells c.add.new.cells.entries c.self.inside.slots c.insert.new.self c.add.ensures.cells c.in_err-key.ensures.err v ∙ ap (λ (l : List (UnitKey × State g.row.E.Denot)). state l v) c.self.view_is)
