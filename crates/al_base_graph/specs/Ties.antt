-- The edges between nodes, and the edges that show a cycle.
use Rattle.std.specs.Prelude.{◌≡◌, ◌⊎◌, ℕ, ◌<◌, ◌≤◌, List, [], length, replicate, fold, slice_index_or}
use Rattle.std.specs.List.{Contains, HoldsAt}
use Rattle.al_base_graph.specs.Graphs.{with_step}
use Rattle.al_base_graph.specs.Orders.{IsCycle, next_in}
use Rattle.al_base_graph.specs.declared.edge.Edge.{Edge}
use Rattle.al_base_graph.specs.declared.edge.Reason.{Reason}
use Rattle.al_base_graph.specs.declared.edge.Reason.TheVariants.{Depends, Elaborate, ElaborateAll}

abbrev pub rank_of : Reason → ℕ
rank_of Depends = 0
rank_of Elaborate = 1
rank_of ElaborateAll = 2

-- first the reason, then x, then y
abbrev pub IsUpto : Edge → Edge → Type 0
IsUpto s t =
    (rank_of s.reason < rank_of t.reason)
    ⊎ ((rank_of s.reason ≡ rank_of t.reason) × ((s.x < t.x) ⊎ ((s.x ≡ t.x) × (s.y ≤ t.y))))

abbrev pub IsBetween : ℕ → ℕ → Edge → Type 0
IsBetween a b t = (t.after ≡ a) × (t.before ≡ b)

-- of the edges between two nodes the one that is named
abbrev pub IsLine : List Edge → ℕ → ℕ → Edge → Type 0
IsLine edges a b t = Contains edges t × IsBetween a b t × ((s : Edge) → Contains edges s → IsBetween a b s → IsUpto t s)

-- each edge is a step
abbrev pub graph_from : ℕ → List Edge → List (List ℕ)
graph_from count edges = fold (λ g t. with_step g t.after t.before) (replicate count []) edges

-- a line for each node of a cycle and the next one
pub record AreLines (edges : List Edge) (cycle : List ℕ) (lines : List Edge) : Type 0 where
  pub count : length lines ≡ length cycle
  pub each : (i : ℕ) → i < length cycle → HoldsAt (IsLine edges (slice_index_or cycle i 0) (next_in cycle i)) lines i

-- the lines of the cycle
abbrev pub IsFault : ℕ → List Edge → List Edge → Type 0
IsFault count edges lines = (cycle : List ℕ) × IsCycle (graph_from count edges) cycle × AreLines edges cycle lines
