-- What the search for the order keeps: for each node how many of its predecessors aren't placed, and the nodes that are ready.
use Rattle.std.specs.Prelude.{◌≡◌, ◌↔◌, ℕ, ◌+◌, ◌<◌, ◌≤◌, ◌==◌, Bool, not, List, length, slice_index_or, count_by}
use Rattle.std.specs.List.{Contains, list_any}
use Rattle.al_base_graph.specs.Graphs.{successors_of, Step}
use Rattle.al_base_graph.specs.Orders.{IsLeast, IsStuck, TakesLeast}
use Rattle.al_base_graph.specs.declared.placing.Placing.{Placing}

-- how often the number is in the list
abbrev pub times : ℕ → List ℕ → ℕ
times a xs = count_by (λ x. x == a) xs

abbrev pub is_among : ℕ → List ℕ → Bool
is_among a xs = list_any (λ x. x == a) xs

-- how many of the predecessors aren't placed
abbrev pub missing_of : List (List ℕ) → List ℕ → ℕ → ℕ
missing_of g order a = count_by (λ b. not (is_among b order)) (successors_of g a)

-- each step the other way round, as often as it is there
pub record AreLater (g later : List (List ℕ)) : Type 0 where
  pub count : length later ≡ length g
  pub times_same : (a b : ℕ) → times a (successors_of later b) ≡ times b (successors_of g a)

pub record IsPlacing (g : List (List ℕ)) (order missing ready : List ℕ) : Type 0 where
  pub takes_least : TakesLeast g order
  pub count : length missing ≡ length g
  pub missing_is : (a : ℕ) → slice_index_or missing a 0 ≡ missing_of g order a
  pub ready_is : (a : ℕ) → Contains ready a ↔ ((a < length g) × (Contains order a → ⊥) × (slice_index_or missing a 0 ≡ 0))

abbrev pub Places : List (List ℕ) → Placing → Type 0
Places g placing = IsPlacing g placing.order.items placing.missing.items placing.ready.nodes.keys

-- the stuck nodes are those that have predecessors which aren't placed
abbrev pub TellStuck : List (List ℕ) → List ℕ → Type 0
TellStuck g missing = (a : ℕ) → IsStuck g a ↔ (0 < slice_index_or missing a 0)
