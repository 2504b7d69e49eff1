use Rattle.std.proofs.Common.{◌≡◌, ◌∙◌, sym, ap, subst, refl, ℕ, Some, None, List, Option, option_map, if◌then◌else◌}
use Rattle.al_base.specs.declared.unit_key.UnitKey.{UnitKey}
use Rattle.al_view.specs.Symbols.{same_unit}
use Rattle.al_query_store.specs.Stored.{settled}
use Rattle.al_query_store.specs.declared.slots.Held.{Held}
use Rattle.al_query_store.specs.declared.cell.Cell.{Cell}
use Rattle.al_query_store.specs.Keyed.{Changes, State, cell_at, made_key, seen, settled_key, state, under, with_slots, promoted}
use Rattle.al_query_store.proofs.StateLemmas.{state-seen, Turns, cells-promoted, key-there, no-settled-key, seen-promoted, state-turned, stored-promoted, turned-there, unchanged}
use Rattle.al_query_store.proofs.store.Store.promote.Goals as goal

pub returns-in_default : goal.returns-in_default
returns-in_default g c =
    let cells = c.self.inside.cells.entries in
    let s = c.self.inside.slots in
    let u = c.args.unit.now in
    let d = cell_at cells u in
    let none : d.made ≡ None = sym (ap (λ (x : Cell). x.made) c.cell_of-cell.ensures) ∙ c.in_default.is in
    let without : under s d.settled ≡ None = sym (ap (λ (x : State g.row.E.Denot). x.settled) (state-seen cells s u)) ∙ ap (λ (l : List (UnitKey × State g.row.E.Denot)). (state l u).settled) c.self.view_is ∙ c.requires in
    let set : Option (Held g.row.E.Denot) → Option (Held g.row.E.Denot) → State g.row.E.Denot = λ a b. record { settled = a; made = b; was_reached = d.was_reached; is_reached = d.is_reached; leaves = d.leaves } in
    let same : promoted (seen s d) ≡ seen s d =
    ap (λ (o : Option ℕ). set (option_map settled (under s o)) None) none ∙ ap (λ (o : Option (Held g.row.E.Denot)). set o None) (sym without) ∙ ap (λ (o : Option ℕ). set (under s d.settled) (under s o)) (sym none) in
    subst (λ (l : List (UnitKey × State g.row.E.Denot)). Changes promoted u l l) c.self.view_is
    (unchanged promoted u (with_slots cells s) (ap promoted (state-seen cells s u) ∙ same ∙ sym (state-seen cells s u)))

pub invariant_of-self : goal.invariant_of-self
invariant_of-self g c =
    let cells = c.self.inside.cells.entries in
    let new = c.change.new.cells.entries in
    let s = c.self.inside.slots in
    let t = c.settle.new.self in
    let u = c.args.unit.now in
    let k = c.in-Some.key in
    let x : Cell → Cell = (λ (y : Cell). record { settled = Some k; made = None; was_reached = y.was_reached; is_reached = y.is_reached; leaves = y.leaves }) in
    let there : made_key cells u ≡ Some k = sym (ap (λ (y : Cell). y.made) c.cell_of-cell.ensures) ∙ c.in-Some.is in
    let turns : Turns x u cells new = turned-there x _ u cells new (ap x c.cell_of-cell.ensures) c.change.ensures (key-there cells u k there) in
    let none : under s (settled_key cells u) ≡ None = sym (ap (λ (x : State g.row.E.Denot). x.settled) (state-seen cells s u)) ∙ ap (λ (l : List (UnitKey × State g.row.E.Denot)). (state l u).settled) c.self.view_is ∙ c.requires in
    let no_key = no-settled-key cells s u c.self.invariant none in
    cells-promoted x u cells new s t k c.self.invariant turns c.settle.ensures (λ y. refl) (λ y. refl) there no_key

pub returns : goal.returns
returns g c v =
    let cells = c.self.inside.cells.entries in
    let new = c.change.new.cells.entries in
    let s = c.self.inside.slots in
    let t = c.settle.new.self in
    let u = c.args.unit.now in
    let k = c.in-Some.key in
    let x : Cell → Cell = (λ (y : Cell). record { settled = Some k; made = None; was_reached = y.was_reached; is_reached = y.is_reached; leaves = y.leaves }) in
    let there : made_key cells u ≡ Some k = sym (ap (λ (y : Cell). y.made) c.cell_of-cell.ensures) ∙ c.in-Some.is in
    let turns : Turns x u cells new = turned-there x _ u cells new (ap x c.cell_of-cell.ensures) c.change.ensures (key-there cells u k there) in
    let none : under s (settled_key cells u) ≡ None = sym (ap (λ (x : State g.row.E.Denot). x.settled) (state-seen cells s u)) ∙ ap (λ (l : List (UnitKey × State g.row.E.Denot)). (state l u).settled) c.self.view_is ∙ c.requires in
    let no_key = no-settled-key cells s u c.self.invariant none in
    let d = cell_at cells u in
    let set : Option (Held g.row.E.Denot) → State g.row.E.Denot = λ o. record { settled = o; made = None; was_reached = d.was_reached; is_reached = d.is_reached; leaves = d.leaves } in
    let here : seen t (x d) ≡ promoted (seen s d) =
    ap set (stored-promoted x u cells new s t k c.self.invariant turns c.settle.ensures (λ y. refl) (λ y. refl) there no_key ∙ ap (λ (o : Option ℕ). option_map settled (under s o)) (sym there)) in
    state-turned promoted x u cells new s t turns here (seen-promoted x u cells new s t k c.self.invariant turns c.settle.ensures (λ y. refl) (λ y. refl) there no_key) v
    ∙ ap (λ (l : List (UnitKey × State g.row.E.Denot)). if same_unit u v then promoted (state l v) else state l v) c.self.view_is
