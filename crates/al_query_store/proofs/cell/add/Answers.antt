use Rattle.std.proofs.Common.{◌≡◌, ◌∙◌, sym, ap, Bool, Some, None, is_some, if◌then◌else◌}
use Rattle.al_base.specs.declared.unit_key.UnitKey.{UnitKey}
use Rattle.al_base.specs.contracts.unit_key.UnitKeyOrd.TheImpl.{cmp-value}
use Rattle.al_view.specs.Symbols.{same_unit}
use Rattle.al_view.proofs.SymbolLemmas.{same_unit-self}
use Rattle.al_query_store.specs.Units.{at_unit}
use Rattle.al_query_store.proofs.UnitLemmas.{changed, found}
use Rattle.al_query_store.specs.declared.cell.Cell.{Cell}
use Rattle.al_query_store.specs.Keyed.{empty}
use Rattle.al_query_store.proofs.CellLemmas.{added-empty, by_name, no-cell}
use Rattle.al_query_store.proofs.cell.add.Goals as goal

pub returns-then-contains_key-clause-there : goal.returns-then-contains_key-clause-there
returns-then-contains_key-clause-there c =
    ap is_some (sym (found cmp-value.it by_name c.args.unit.now c.args.cells.now.entries)) ∙ sym c.contains_key.ensures ∙ c.if-contains_key.true

pub returns-clause-cells : goal.returns-clause-cells
returns-clause-cells c u =
    let es = c.args.cells.now.entries in
    let new = c.insert.new.self.entries in
    let unit = c.args.unit.now in
    let none : at_unit es unit ≡ None = no-cell (at_unit es unit) (ap is_some (sym (found cmp-value.it by_name unit es)) ∙ sym c.contains_key.ensures ∙ c.if-contains_key.false) in
    let set : at_unit new u ≡ (if same_unit unit u then Some empty else at_unit es u) =
    changed cmp-value.it by_name es new c.in_ok-unit.unit (Some c.empty.result) c.in-Ok.ensures.updates.0 u
    ∙ ap (λ (w : UnitKey). if same_unit w u then Some c.empty.result else at_unit es u) c.in_ok-unit.ensures
    ∙ ap (λ (x : Cell). if same_unit unit u then Some x else at_unit es u) c.empty.ensures in
    added-empty es new unit u none set

pub returns-clause-there : goal.returns-clause-there
returns-clause-there c =
    let es = c.args.cells.now.entries in
    let new = c.insert.new.self.entries in
    let unit = c.args.unit.now in
    ap is_some (changed cmp-value.it by_name es new c.in_ok-unit.unit (Some c.empty.result) c.in-Ok.ensures.updates.0 unit)
    ∙ ap (λ (w : UnitKey). is_some (if same_unit w unit then Some c.empty.result else at_unit es unit)) c.in_ok-unit.ensures
    ∙ ap (λ (b : Bool). is_some (if b then Some c.empty.result else at_unit es unit)) (same_unit-self unit)
