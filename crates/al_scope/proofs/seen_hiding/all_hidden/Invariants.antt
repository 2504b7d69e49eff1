use Rattle.std.proofs.Common.{◌≡◌, [], take}
use Rattle.std.specs.Prelude.{fold}
use Rattle.al_scope.specs.Hidden.{with_hidden}
use Rattle.al_scope.proofs.seen_hiding.all_hidden.Given as goal

abbrev pub invariant-loop-i : goal.invariant-loop-i
invariant-loop-i l = l.answered ≡ fold (with_hidden l.names) [] (take l.i l.declared)
