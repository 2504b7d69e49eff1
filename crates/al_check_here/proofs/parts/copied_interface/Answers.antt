use Rattle.std.proofs.Common.{[], ap, ◌∙◌, arith}
use Rattle.std.specs.Prelude.{fold}
use Rattle.al_check_here.specs.PartsHere.{with_views}
use Rattle.al_check_here.proofs.Lists.{folded_at}
use Rattle.al_check_here.proofs.parts.copied_interface.Goals as goal

pub loop-i-preserved : goal.loop-i-preserved
loop-i-preserved c =
    folded_at with_views [] c.loop-i.answered c.add_name.new.answered c.args.declared.now c.loop-i.i ([], []) (omega arith) c.loop-i.invariant c.in_ok-add_name.ensures
