use Rattle.std.proofs.Common.{◌≡◌, take}
use Rattle.al_scope.specs.Hidden.{with_hidden}
use Rattle.al_scope.proofs.seen_hiding.add_hidden.Given as goal

abbrev pub invariant-loop-view : goal.invariant-loop-view
invariant-loop-view l = l.answered ≡ with_hidden l.names l.fn.answered (l.name, take l.view-index l.views)
