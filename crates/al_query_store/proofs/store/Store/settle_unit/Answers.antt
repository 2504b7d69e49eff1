use Rattle.std.proofs.Common.{◌≡◌, ◌∙◌, sym, ap, subst, Bool, true, false, List, if◌then◌else◌}
use Rattle.al_base.specs.declared.unit_key.UnitKey.{UnitKey}
use Rattle.al_query_store.specs.declared.cell.Cell.{Cell}
use Rattle.al_query_store.specs.Keyed.{State, nothing, settled_so, settled_state, state}
use Rattle.al_query_store.proofs.StateLemmas.{changes-alike, state-seen}
use Rattle.al_query_store.proofs.store.Store.settle_unit.Goals as goal

pub returns-then-cell : goal.returns-then-cell
returns-then-cell g c =
    let cells = c.self.inside.cells.entries in
    let s = c.self.inside.slots in
    let u = c.args.unit.now in
    let leaves : (state c.args.self.now u).leaves ≡ true = subst (λ (l : List (UnitKey × State g.row.E.Denot)). (state l u).leaves ≡ true) c.self.view_is (ap (λ (x : State g.row.E.Denot). x.leaves) (state-seen cells s u) ∙ sym (ap (λ (x : Cell). x.leaves) c.cell_of-cell.ensures) ∙ c.if-cell.true) in
    changes-alike (λ x. nothing) settled_state u c.args.self.now c.drop_unit.new.self (ap (λ (b : Bool). if b then nothing else settled_so (state c.args.self.now u)) (sym leaves)) c.drop_unit.ensures

pub returns-else-cell : goal.returns-else-cell
returns-else-cell g c =
    let cells = c.self.inside.cells.entries in
    let s = c.self.inside.slots in
    let u = c.args.unit.now in
    let stays : (state c.args.self.now u).leaves ≡ false = subst (λ (l : List (UnitKey × State g.row.E.Denot)). (state l u).leaves ≡ false) c.self.view_is (ap (λ (x : State g.row.E.Denot). x.leaves) (state-seen cells s u) ∙ sym (ap (λ (x : Cell). x.leaves) c.cell_of-cell.ensures) ∙ c.if-cell.false) in
    changes-alike settled_so settled_state u c.args.self.now c.settle_made.new.self (ap (λ (b : Bool). if b then nothing else settled_so (state c.args.self.now u)) (sym stays)) c.settle_made.ensures
