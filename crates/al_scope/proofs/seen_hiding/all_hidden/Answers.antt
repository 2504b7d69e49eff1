use Rattle.std.proofs.Common.{[], arith}
use Rattle.al_scope.specs.Hidden.{with_hidden}
use Rattle.al_scope.proofs.Lists.{folded_at}
use Rattle.al_scope.proofs.seen_hiding.all_hidden.Goals as goal

pub loop-i-preserved : goal.loop-i-preserved
loop-i-preserved c =
    folded_at (with_hidden c.args.names.now) [] c.loop-i.answered c.add_hidden_at.new.answered c.args.declared.now c.loop-i.i ([], []) (omega arith) c.loop-i.invariant c.in_ok-add_hidden_at.ensures
