use Rattle.al_link.proofs.UnitLemmas.{passed_at}
use Rattle.al_link.proofs.units.locate.Goals as goal

pub returns-in_default-clause-fault : goal.returns-in_default-clause-fault
returns-in_default-clause-fault c =
    passed_at c.loop-unit.before _ c.args.units.now c.loop-unit.unit-index c.unit-item.result c.loop-unit-test.true c.unit-item.is c.in_default.ensures c.loop-unit.invariant.after
