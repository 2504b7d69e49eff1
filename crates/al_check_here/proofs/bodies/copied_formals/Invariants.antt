use Rattle.std.proofs.Common.{◌≡◌, take}
use Rattle.al_check_here.proofs.bodies.copied_formals.Given as goal

abbrev pub invariant-loop-formal : goal.invariant-loop-formal
invariant-loop-formal l = l.copy ≡ take l.formal-index l.formals
