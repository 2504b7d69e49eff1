use Rattle.std.proofs.Common.{◌≡◌, ◌∙◌, sym, ap, subst, refl, Bool, true, false, not, List, is_some, if◌then◌else◌}
use Rattle.al_base.specs.declared.unit_key.UnitKey.{UnitKey}
use Rattle.al_view.specs.Symbols.{same_unit}
use Rattle.al_query_store.specs.declared.cell.Cell.{Cell}
use Rattle.al_query_store.specs.Keyed.{Changes, State, made_key, promoted, replaced, state, with_slots, without_settled}
use Rattle.al_query_store.proofs.StateLemmas.{changes-alike, changes-here, replaced-made, replaced-none, state-made, unchanged}
use Rattle.al_query_store.proofs.store.Store.replace_settled.Goals as goal

-- the settled entry is let go, and then the one that was made is settled
both : {E : Type 0} (b : Bool) (s : State E) → (if b then promoted (if b then without_settled s else s) else (if b then without_settled s else s)) ≡ (if b then promoted (without_settled s) else s)
both true s = refl
both false s = refl

pub returns-then-is_none : goal.returns-then-is_none
returns-then-is_none g c =
    let cells = c.self.inside.cells.entries in
    let s = c.self.inside.slots in
    let u = c.args.unit.now in
    let none : is_some (made_key cells u) ≡ false = sym (ap (λ (x : Cell). is_some x.made) c.cell_of-cell.ensures) ∙ c.is_none.ensures ∙ ap not c.if-is_none.true in
    subst (λ (l : List (UnitKey × State g.row.E.Denot)). Changes replaced u l l) c.self.view_is
    (unchanged replaced u (with_slots cells s) (replaced-none (state (with_slots cells s) u) (state-made cells s u c.self.invariant ∙ none)))

pub promote-requires : goal.promote-requires
promote-requires g c =
    ap (λ (s : State g.row.E.Denot). s.settled) (changes-here without_settled c.args.unit.now c.args.self.now c.drop_settled.new.self c.drop_settled.ensures)

pub returns : goal.returns
returns g c =
    let cells = c.self.inside.cells.entries in
    let s = c.self.inside.slots in
    let u = c.args.unit.now in
    let there : is_some (made_key cells u) ≡ true = sym (ap (λ (x : Cell). is_some x.made) c.cell_of-cell.ensures) ∙ c.is_none.ensures ∙ ap not c.if-is_none.false in
    let made : is_some (state c.args.self.now u).made ≡ true = subst (λ (l : List (UnitKey × State g.row.E.Denot)). is_some (state l u).made ≡ true) c.self.view_is (state-made cells s u c.self.invariant ∙ there) in
    changes-alike (λ x. promoted (without_settled x)) replaced u c.args.self.now c.promote.new.self (replaced-made (state c.args.self.now u) made)
    (λ v. c.promote.ensures v ∙ ap (λ (x : State g.row.E.Denot). if same_unit u v then promoted x else x) (c.drop_settled.ensures v) ∙ both (same_unit u v) (state c.args.self.now v))
