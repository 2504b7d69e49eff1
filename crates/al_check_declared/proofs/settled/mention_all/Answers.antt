use Rattle.std.proofs.Common.{arith}
use Rattle.al_check_declared.specs.WholeHere.{own_mentioned}
use Rattle.al_check_here.proofs.Lists.{folded}
use Rattle.al_check_declared.proofs.settled.mention_all.Goals as goal

pub loop-declaration-preserved : goal.loop-declaration-preserved
loop-declaration-preserved c =
    folded (own_mentioned c.args.unit_name.now) c.args.scope.now c.loop-declaration.scope c.mention_own.new.scope c.args.own.now c.loop-declaration.declaration-index c.declaration-item.result (omega arith) c.declaration-item.is
    c.loop-declaration.invariant c.in_ok-mention_own.ensures
