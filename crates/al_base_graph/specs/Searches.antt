-- What a search over a graph keeps: the nodes found so far, in the order in which they were found, and a flag at each.
use Rattle.std.specs.Prelude.{◌≡◌, ◌↔◌, ℕ, Bool, false, IsTrue, List, ◌++◌, length, slice_index_or, count_by}
use Rattle.std.specs.List.{Contains}

-- the flags are set at the nodes of the list, which has none twice: as many flags are set as it has nodes
pub record AreFound (flags : List Bool) (nodes : List ℕ) : Type 0 where
  pub flagged : (a : ℕ) → IsTrue (slice_index_or flags a false) ↔ Contains nodes a
  pub once : count_by (λ flag. flag) flags ≡ length nodes

-- the list goes on as a longer one, which has all the numbers of `more`, and after the old ones no others
pub record Grows (old new more : List ℕ) : Type 0 where
  pub rest : List ℕ
  pub goes_on : new ≡ old ++ rest
  pub all : (a : ℕ) → Contains more a → Contains new a
  pub only : (a : ℕ) → Contains rest a → Contains more a
