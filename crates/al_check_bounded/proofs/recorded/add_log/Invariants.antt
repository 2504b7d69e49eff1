use Rattle.std.proofs.Common.{◌≡◌, ◌++◌, take}
use Rattle.al_check_bounded.specs.Questions.{recorded_views}
use Rattle.al_check_bounded.proofs.recorded.add_log.Given as goal

abbrev pub invariant-loop-i : goal.invariant-loop-i
invariant-loop-i l = l.found.items ≡ l.fn.found.items ++ recorded_views l.wanted (take l.i l.log)
