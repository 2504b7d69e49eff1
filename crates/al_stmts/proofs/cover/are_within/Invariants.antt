use Rattle.std.proofs.Common.{ℕ, ◌<◌, ◌≤ℤ◌}
use Rattle.std.specs.List.{AllWithin}
use Rattle.al_stmts.proofs.cover.are_within.Given as goal

abbrev pub invariant-loop-range : goal.invariant-loop-range
invariant-loop-range l = AllWithin (λ r. (l.whole.low ≤ℤ r.low) × (r.high ≤ℤ l.whole.high)) l.ranges 0 l.range-index
