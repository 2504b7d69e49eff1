use Rattle.std.proofs.Common.{◌≡◌, ◌∙◌, sym, ap, refl, None, List, if◌then◌else◌}
use Rattle.al_base.specs.declared.unit_key.UnitKey.{UnitKey}
use Rattle.al_view.specs.Symbols.{same_unit}
use Rattle.al_query_store.specs.Keyed.{State, empty, made_key, nothing, settled_key, state, under}
use Rattle.al_query_store.proofs.StateLemmas.{cells-emptied, no-made-key, no-settled-key, state-seen, state-turned}
use Rattle.al_query_store.proofs.store.Store.drop_cell.Goals as goal

pub invariant_of-self : goal.invariant_of-self
invariant_of-self g c =
    let cells = c.self.inside.cells.entries in
    let s = c.self.inside.slots in
    let u = c.args.unit.now in
    let settled : under s (settled_key cells u) ≡ None = sym (ap (λ (x : State g.row.E.Denot). x.settled) (state-seen cells s u)) ∙ ap (λ (l : List (UnitKey × State g.row.E.Denot)). (state l u).settled) c.self.view_is ∙ c.requires.settled in
    let made : under s (made_key cells u) ≡ None = sym (ap (λ (x : State g.row.E.Denot). x.made) (state-seen cells s u)) ∙ ap (λ (l : List (UnitKey × State g.row.E.Denot)). (state l u).made) c.self.view_is ∙ c.requires.made in
    cells-emptied u cells c.take_away.new.cells.entries s c.take_away.ensures (no-settled-key cells s u c.self.invariant settled) (no-made-key cells s u c.self.invariant made) c.self.invariant

pub returns : goal.returns
returns g c v =
    let cells = c.self.inside.cells.entries in
    let s = c.self.inside.slots in
    let u = c.args.unit.now in
    state-turned (λ x. nothing) (λ x. empty) u cells c.take_away.new.cells.entries s s c.take_away.ensures refl (λ w e. refl) v
    ∙ ap (λ (l : List (UnitKey × State g.row.E.Denot)). if same_unit u v then nothing else state l v) c.self.view_is
