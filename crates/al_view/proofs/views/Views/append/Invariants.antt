use Rattle.std.proofs.Common.{◌≡◌, ◌++◌, take}
use Rattle.al_view.proofs.views.Views.append.Given as goal

abbrev pub invariant-loop-view : goal.invariant-loop-view
invariant-loop-view l = l.self ≡ l.fn.self ++ take l.view-index l.others
