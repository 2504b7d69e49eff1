-- A directed graph: for each node, a number below the length, the list of the nodes that one step from it leads to.
use Rattle.std.specs.Prelude.{◌≡◌, ◌↔◌, ℕ, ◌<◌, Bool, false, IsTrue, List, [], ◌∷◌, ◌++◌, length, slice_index_or, slice_set}
use Rattle.std.specs.List.{Contains}

-- the successors of a node
abbrev pub successors_of : List (List ℕ) → ℕ → List ℕ
successors_of g a = slice_index_or g a []

-- one step leads from a to b
abbrev pub Step : List (List ℕ) → ℕ → ℕ → Type 0
Step g a b = Contains (successors_of g a) b

-- each step leads to a node of the graph
abbrev pub IsClosed : List (List ℕ) → Type 0
IsClosed g = (a b : ℕ) → Step g a b → b < length g

-- some number of steps leads from a to b, no step too
pub data Reaches : List (List ℕ) → ℕ → ℕ → Type 0 where
  here : {g : List (List ℕ)} {a : ℕ} → Reaches g a a
  further : {g : List (List ℕ)} {a : ℕ} (b : ℕ) {c : ℕ} → Reaches g a b → Step g b c → Reaches g a c

-- one of the starts reaches b
abbrev pub IsReached : List (List ℕ) → List ℕ → ℕ → Type 0
IsReached g starts b = (a : ℕ) × Contains starts a × Reaches g a b

-- the set holds the starts, and the successors of each node that it holds
abbrev pub HoldsReached : List (List ℕ) → List ℕ → (ℕ → Bool) → Type 0
HoldsReached g starts held = ((a : ℕ) → Contains starts a → IsTrue (held a)) × ((a b : ℕ) → IsTrue (held a) → Step g a b → IsTrue (held b))

-- a reaches one of the goals
abbrev pub ReachesSome : List (List ℕ) → List ℕ → ℕ → Type 0
ReachesSome g goals a = (b : ℕ) × Contains goals b × Reaches g a b

-- at least one step leads from a back to a
abbrev pub IsOnCycle : List (List ℕ) → ℕ → Type 0
IsOnCycle g a = (b : ℕ) × Step g a b × Reaches g b a

-- a flag for each of so many nodes, which is set at those of the set, and at no other
abbrev pub Marks : List Bool → ℕ → (ℕ → Type 0) → Type 0
Marks flags count P = (length flags ≡ count) × ((a : ℕ) → IsTrue (slice_index_or flags a false) ↔ P a)

-- each number is greater than the one before
abbrev pub IsAscending : List ℕ → Type 0
IsAscending xs = (i j : ℕ) → i < j → j < length xs → slice_index_or xs i 0 < slice_index_or xs j 0

-- the numbers of the set, and no other, in ascending order
abbrev pub Lists : List ℕ → (ℕ → Type 0) → Type 0
Lists xs P = IsAscending xs × ((a : ℕ) → Contains xs a ↔ P a)

-- the graph with one step more, the last of its node
abbrev pub with_step : List (List ℕ) → ℕ → ℕ → List (List ℕ)
with_step g a b = slice_set g a (successors_of g a ++ b ∷ [])

-- a graph with as many nodes, and each step the other way round
abbrev pub IsReverse : List (List ℕ) → List (List ℕ) → Type 0
IsReverse g r = (length r ≡ length g) × ((a b : ℕ) → Step r b a ↔ Step g a b)
