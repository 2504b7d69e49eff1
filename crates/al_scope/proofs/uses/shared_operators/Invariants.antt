use Rattle.std.proofs.Common.{◌≡◌, take}
use Rattle.al_scope.proofs.uses.shared_operators.Given as goal

abbrev pub invariant-loop-of_type : goal.invariant-loop-of_type
invariant-loop-of_type l = l.copy ≡ take l.of_type-index l.operators
