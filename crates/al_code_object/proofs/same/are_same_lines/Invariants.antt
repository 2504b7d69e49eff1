use Rattle.std.proofs.Common.{◌≡◌, take}
use Rattle.al_code_object.proofs.same.are_same_lines.Given as goal

-- the entries so far are the same
abbrev pub invariant-loop-i : goal.invariant-loop-i
invariant-loop-i l = take l.i l.lines ≡ take l.i l.others
