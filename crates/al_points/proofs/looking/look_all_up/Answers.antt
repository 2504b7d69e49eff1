use Rattle.std.proofs.Common.{arith}
use Rattle.al_points.proofs.Noted.{next_meant}
use Rattle.al_points.proofs.looking.look_all_up.Goals as goal

pub loop-name-preserved : goal.loop-name-preserved
loop-name-preserved g c =
    next_meant (g.A.Answers.table c.args.table.now) c.args.state.now c.args.names.now c.loop-name.found.items c.push.new.self.items c.loop-name.name-index c.name-item.result c.in_ok-look_up.field-0 (omega arith) c.name-item.is c.loop-name.invariant c.in_ok-look_up.ensures c.in_ok-push.ensures.items
