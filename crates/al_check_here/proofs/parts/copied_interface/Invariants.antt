use Rattle.std.proofs.Common.{◌≡◌, [], take}
use Rattle.std.specs.Prelude.{fold}
use Rattle.al_check_here.specs.PartsHere.{with_views}
use Rattle.al_check_here.proofs.parts.copied_interface.Given as goal

abbrev pub invariant-loop-i : goal.invariant-loop-i
invariant-loop-i l = l.answered ≡ fold with_views [] (take l.i l.declared)
