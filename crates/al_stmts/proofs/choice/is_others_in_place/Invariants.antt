use Rattle.std.proofs.Common.{◌≡◌, ◌+◌, ℕ, ◌<◌, IsTrue, [], length, slice_index_or}
use Rattle.al_stmts.specs.Choosing.{has_others}
use Rattle.al_stmts.proofs.choice.is_others_in_place.Given as goal

abbrev pub invariant-loop-i : goal.invariant-loop-i
invariant-loop-i l =
    (k : ℕ) → k < l.i → IsTrue (has_others (slice_index_or l.alternatives k []))
    → (length (slice_index_or l.alternatives k []) ≡ 1) × (k + 1 ≡ length l.alternatives)
