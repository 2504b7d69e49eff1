use Rattle.std.proofs.Common.{◌≡◌, ◌∙◌, sym, ap, Some, None, Option, unwrap_or}
use Rattle.al_base.specs.contracts.unit_key.UnitKeyOrd.TheImpl.{cmp-value}
use Rattle.al_query_store.specs.Units.{at_unit}
use Rattle.al_query_store.proofs.UnitLemmas.{found}
use Rattle.al_query_store.specs.declared.cell.Cell.{Cell}
use Rattle.al_query_store.specs.Keyed.{empty}
use Rattle.al_query_store.proofs.CellLemmas.{by_name}
use Rattle.al_query_store.proofs.cell.cell_of.Goals as goal

pub returns-in-Some : goal.returns-in-Some
returns-in-Some c =
    let es = c.args.cells.now.entries in
    let u = c.args.unit.now in
    let there : at_unit es u ≡ Some c.in-Some.cell.now = sym (found cmp-value.it by_name u es) ∙ sym c.in-Some.ensures.value in
    sym (ap (λ (o : Option Cell). unwrap_or o empty) there)

pub returns-in-None : goal.returns-in-None
returns-in-None c =
    let es = c.args.cells.now.entries in
    let u = c.args.unit.now in
    let none : at_unit es u ≡ None = sym (found cmp-value.it by_name u es) ∙ sym c.in-None.ensures.value in
    c.empty.ensures ∙ sym (ap (λ (o : Option Cell). unwrap_or o empty) none)
