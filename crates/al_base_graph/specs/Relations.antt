-- The order of so many nodes by a relation: `Before a b` says that b comes before a.
use Rattle.std.specs.Prelude.{ℕ, ◌<◌, List, length, take, slice_index_or}
use Rattle.std.specs.List.{Contains}
use Rattle.al_base_graph.specs.Orders.{IsLeast}

-- a node that isn't there yet, and all that come before it are
abbrev pub IsFree : ℕ → (ℕ → ℕ → Type 0) → List ℕ → ℕ → Type 0
IsFree count Before there a = (a < count) × (Contains there a → ⊥) × ((b : ℕ) → Before a b → Contains there b)

-- all of so many nodes, each time the least that is free after those before it
pub record IsOrderBy (count : ℕ) (Before : ℕ → ℕ → Type 0) (order : List ℕ) : Type 0 where
  pub all : (a : ℕ) → a < count → Contains order a
  pub takes_least : (i : ℕ) → i < length order → IsLeast (IsFree count Before (take i order)) (slice_index_or order i 0)
