use Rattle.std.proofs.Common.{◌≡◌, ◌++◌, take}
use Rattle.al_check_bounded.proofs.views.add_each.Given as goal

abbrev pub invariant-loop-view : goal.invariant-loop-view
invariant-loop-view l = l.found.items ≡ l.fn.found.items ++ take l.view-index l.views
