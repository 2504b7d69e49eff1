-- The order of a graph's nodes, or the cycle that shows that there is none. A step of the graph leads from a node to a predecessor.
use Rattle.std.specs.Prelude.{◌≡◌, ◌≢◌, ℕ, ◌+◌, ◌<◌, ◌≤◌, Bool, IsTrue, List, [], ◌∷◌, ◌++◌, length, take, slice_index_or}
use Rattle.std.specs.List.{Contains}
use Rattle.al_base_graph.specs.Graphs.{Step}

abbrev pub IsLeast : (ℕ → Type 0) → ℕ → Type 0
IsLeast P a = P a × ((b : ℕ) → P b → a ≤ b)

-- a node that isn't there yet, and whose predecessors all are
abbrev pub IsAvailable : List (List ℕ) → List ℕ → ℕ → Type 0
IsAvailable g there a = (a < length g) × (Contains there a → ⊥) × ((b : ℕ) → Step g a b → Contains there b)

-- each member is the least node that is available after those before it
abbrev pub TakesLeast : List (List ℕ) → List ℕ → Type 0
TakesLeast g order = (i : ℕ) → i < length order → IsLeast (IsAvailable g (take i order)) (slice_index_or order i 0)

-- all nodes, each taken so
pub record IsOrder (g : List (List ℕ)) (order : List ℕ) : Type 0 where
  pub all : (a : ℕ) → a < length g → Contains order a
  pub takes_least : TakesLeast g order

-- each number once
abbrev pub AreDistinct : List ℕ → Type 0
AreDistinct xs = (i j : ℕ) → i < j → j < length xs → slice_index_or xs i 0 ≢ slice_index_or xs j 0

-- each node of the set has a predecessor in the set
abbrev pub EachHasOneBefore : List (List ℕ) → (ℕ → Bool) → Type 0
EachHasOneBefore g held = (a : ℕ) → IsTrue (held a) → (b : ℕ) × Step g a b × IsTrue (held b)

-- a node of the greatest such set: of one of them
abbrev pub IsStuck : List (List ℕ) → ℕ → Type 0
IsStuck g a = (held : ℕ → Bool) × EachHasOneBefore g held × IsTrue (held a)

-- the walk from the least stuck node to its least stuck predecessor, and on
pub record IsStuckWalk (g : List (List ℕ)) (walk : List ℕ) : Type 0 where
  pub begins : IsLeast (IsStuck g) (slice_index_or walk 0 0)
  pub goes_on : (i : ℕ) → i + 1 < length walk → IsLeast (λ b. Step g (slice_index_or walk i 0) b × IsStuck g b) (slice_index_or walk (i + 1) 0)

-- the end of the walk, from the first visit of the first node that is met again, up to the second
pub record IsCycle (g : List (List ℕ)) (cycle : List ℕ) : Type 0 where
  pub front : List ℕ
  pub some : 0 < length cycle
  pub distinct : AreDistinct (front ++ cycle)
  pub walk : IsStuckWalk g ((front ++ cycle) ++ slice_index_or cycle 0 0 ∷ [])

-- the order, and no node is stuck; or the cycle of stuck nodes
abbrev pub IsOrdered : List (List ℕ) → List ℕ → Type 0
IsOrdered g order = IsOrder g order × ((a : ℕ) → IsStuck g a → ⊥)

-- the node after the one at a place of a cycle
abbrev pub next_in : List ℕ → ℕ → ℕ
next_in cycle i = slice_index_or cycle (i + 1) (slice_index_or cycle 0 0)
