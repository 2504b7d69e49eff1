use Rattle.al_engine_refresh.proofs.LeftLemmas.{set-more}
use Rattle.al_engine_refresh.proofs.leaving.set_of.Goals as goal

pub loop-unit-preserved : goal.loop-unit-preserved
loop-unit-preserved c =
    set-more c.args.units.now c.loop-unit.unit-index c.unit-item.result c.in_ok-copied_unit.field-0 c.loop-unit.set c.insert.new.self c.loop-unit-test.true c.unit-item.is c.in_ok-copied_unit.ensures c.in_ok-insert.ensures.ok
    c.loop-unit.invariant
