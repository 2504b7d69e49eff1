use Rattle.std.proofs.Common.{arith}
use Rattle.al_check_bounded.proofs.UnitLemmas.{put_more}
use Rattle.al_check_bounded.proofs.unit_set.index_of.Goals as goal

pub loop-unit-preserved : goal.loop-unit-preserved
loop-unit-preserved c =
    put_more c.args.units.now c.loop-unit.unit-index c.unit-item.result c.in_ok-unit.unit c.loop-unit.index.keys c.insert.new.self.keys (omega arith) c.unit-item.is c.in_ok-unit.ensures c.loop-unit.invariant
    c.in_ok-insert.ensures.keys
