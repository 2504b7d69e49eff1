-- How many things a test holds for.
use Rattle.std.specs.Prelude.{◌≡◌, ℕ, Bool, true, List, filter, length}
use Rattle.std.specs.List.{IsDistinct, list_any}

-- a test holds for so many: there are so many in a list that has each once and all for which it holds
pub record IsCount {X : Type 0} (same : X → X → Bool) (test : X → Bool) (n : ℕ) : Type 0 where
  pub items : List X
  pub apart : IsDistinct same items
  pub whole : (x : X) → test x ≡ true → list_any (same x) items ≡ true
  pub counted : n ≡ length (filter test items)
