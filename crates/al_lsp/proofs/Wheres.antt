-- The last number for which a test holds.
use Rattle.std.proofs.Common.{◌≡◌, ℕ, ◌+◌, ◌≤◌, Bool, suc, add-one, if◌then◌else◌, true, false, cond, refl, ap, ◌∙◌, arith}
use Rattle.std.proofs.lemmas.Bool.{cond-true, cond-false}
use Rattle.al_lsp.specs.Positions.{last_where}

pub last_where_yes : (test : ℕ → Bool) (n : ℕ) → test (n + 1) ≡ true → last_where test (n + 1) ≡ n + 1
last_where_yes test n holds = rw (add-one n) (cond-true (test (suc n)) (suc n) (last_where test n) (rw (add-one n) at holds))

pub last_where_no : (test : ℕ → Bool) (n : ℕ) → test (n + 1) ≡ false → last_where test (n + 1) ≡ last_where test n
last_where_no test n fails = rw (add-one n) (cond-false (test (suc n)) (suc n) (last_where test n) (rw (add-one n) at fails))
