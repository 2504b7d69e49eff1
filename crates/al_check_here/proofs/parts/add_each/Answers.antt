use Rattle.std.proofs.Common.{arith}
use Rattle.al_check_here.specs.PartsHere.{with_use}
use Rattle.al_check_here.proofs.Lists.{folded}
use Rattle.al_check_here.proofs.parts.add_each.Goals as goal

pub loop-clause-preserved : goal.loop-clause-preserved
loop-clause-preserved c =
    folded with_use c.args.state.now c.loop-clause.state c.add_use.new.state c.args.clauses.now c.loop-clause.clause-index c.clause-item.result (omega arith) c.clause-item.is c.loop-clause.invariant c.in_ok-add_use.ensures
