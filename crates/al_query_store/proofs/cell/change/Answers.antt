use Rattle.std.proofs.Common.{◌≡◌, ◌∙◌, sym, ap, subst, refl, Some, None, Option, IsSome}
use Rattle.al_base.specs.contracts.unit_key.UnitKeyOrd.TheImpl.{cmp-value}
use Rattle.al_query_store.specs.Units.{at_unit}
use Rattle.al_query_store.proofs.UnitLemmas.{changed, found}
use Rattle.al_query_store.specs.declared.cell.Cell.{Cell}
use Rattle.al_query_store.proofs.CellLemmas.{by_name, changed-none, changed-some}
use Rattle.al_query_store.proofs.cell.change.Goals as goal

pub returns-in_default : goal.returns-in_default
returns-in_default c u =
    let es = c.args.cells.now.entries in
    let unit = c.args.unit.now in
    let none : at_unit es unit ≡ None = sym (found cmp-value.it by_name unit es) ∙ sym c.in_default.ensures.value in
    changed-none es _ unit c.args.to u (ap (λ m. m.entries) c.get_mut.follows.holds-at-none) none

pub returns : goal.returns
returns c u =
    let es = c.args.cells.now.entries in
    let unit = c.args.unit.now in
    let at = c.in-Some.ensures.value in
    let there : at_unit es unit ≡ Some c.in-Some.cell.now = sym (found cmp-value.it by_name unit es) ∙ sym at in
    let w = c.get_mut.follows.holds c.args.to in
    changed-some es _ unit c.args.to c.in-Some.cell.now u there
    (changed cmp-value.it by_name es _ unit (Some c.args.to) ((w.3 (subst (λ (o : Option Cell). IsSome o) at refl)).0) u)
