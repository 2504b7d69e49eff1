use Rattle.std.proofs.Common.{None}
use Rattle.al_base.specs.contracts.unit_key.UnitKeyOrd.TheImpl.{cmp-value}
use Rattle.al_query_store.proofs.UnitLemmas.{changed}
use Rattle.al_query_store.proofs.CellLemmas.{by_name, taken-away}
use Rattle.al_query_store.proofs.cell.take_away.Goals as goal

pub returns : goal.returns
returns c u =
    let es = c.args.cells.now.entries in
    let unit = c.args.unit.now in
    taken-away es c.remove-cell.new.self.entries unit u (changed cmp-value.it by_name es c.remove-cell.new.self.entries unit None c.remove-cell.ensures.updates.0 u)
