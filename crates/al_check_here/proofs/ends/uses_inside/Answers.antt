use Rattle.std.proofs.Common.{arith}
use Rattle.al_check_here.specs.Ends.{use_inside}
use Rattle.al_check_here.proofs.Lists.{mapped}
use Rattle.al_check_here.proofs.ends.uses_inside.Goals as goal

pub loop-found-preserved : goal.loop-found-preserved
loop-found-preserved c =
    mapped (use_inside c.args.stubs.now) c.loop-found.made c.add_use.new.made c.args.uses.now c.loop-found.found-index c.found-item.result (omega arith) c.found-item.is c.loop-found.invariant c.in_ok-add_use.ensures
