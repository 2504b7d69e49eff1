-- What `position` says if it finds nothing.
use Rattle.std.proofs.Common.{◌≡◌, ℕ, Bool, true, false, cond, length, Some, None, not, refl, sym, arith, ltb, ◌≤◌}
use Rattle.std.proofs.lemmas.Bool.Decides.{nat_tests}
use Rattle.std.specs.List.{position_or_len}
use Rattle.std.proofs.lemmas.List.Sums.{prefix_len_passes}
use Rattle.al_stmts.specs.Exits.{may_leave}
use Rattle.al_stmts.proofs.laws.no_exit_where_no_loop.Goals as goal

from_not : (b : Bool) → not b ≡ true → b ≡ false
from_not true h = sym h
from_not false h = refl

not_found : (t : Bool) (n : ℕ) → cond t (Some n) None ≡ None → t ≡ false
not_found true n h = cc
not_found false n h = refl

at_end : (m n : ℕ) → ltb m n ≡ false → n ≤ m
at_end m n h = grind (arith, nat_tests)

pub returns : goal.returns
returns c = λ loops name e k d lt.
    let none : ltb (position_or_len (may_leave name) loops) (length loops) ≡ false = not_found _ (position_or_len (may_leave name) loops) e in
    let all = at_end (position_or_len (may_leave name) loops) (length loops) none in
    from_not _ (prefix_len_passes (λ x. not (may_leave name x)) loops k d (omega arith))
