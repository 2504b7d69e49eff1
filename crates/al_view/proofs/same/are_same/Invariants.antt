use Rattle.std.proofs.Common.{◌≡◌, take}
use Rattle.al_view.proofs.same.are_same.Given as goal

-- the items so far are the same
abbrev pub invariant-loop-i : goal.invariant-loop-i
invariant-loop-i g l = take l.i l.items ≡ take l.i l.others
