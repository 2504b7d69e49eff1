use Rattle.std.proofs.Common.{◌+◌, refl, take}
use Rattle.al_query_store.specs.Keyed.{cancelled_state, state}
use Rattle.al_query_store.proofs.MarkedLemmas.{more-units, one_unit}
use Rattle.al_query_store.proofs.store.Store.cancel_units.Goals as goal

pub loop-unit-preserved : goal.loop-unit-preserved
loop-unit-preserved g c u =
    let i = c.loop-unit.unit-index in
    let moved = c.args.moved.now in
    let unit = c.unit-item.result in
    more-units cancelled_state (λ s. refl) (take i moved) (take (i + 1) moved) unit u (state c.args.self.now u) (state c.loop-unit.self u) (state c.cancel_unit.new.self u)
    (one_unit moved i unit c.unit-item.is c.loop-unit-test.true) (c.loop-unit.invariant u) (c.cancel_unit.ensures u)
