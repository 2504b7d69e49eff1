use Rattle.std.proofs.Common.{◌<ℤ◌}
use Rattle.std.specs.List.{AllAdjacentBelow}
use Rattle.al_stmts.proofs.apart.are_apart.Given as goal

abbrev pub invariant-loop-i : goal.invariant-loop-i
invariant-loop-i l = AllAdjacentBelow (λ a b. a.high <ℤ b.low) l.ranges l.i
