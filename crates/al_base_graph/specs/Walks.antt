-- What a walk over a graph keeps, which looks for cycles. Its path is a list of nodes, each of which leads to all that follow it.
-- The path is cut into stretches by the places at which they begin: the nodes of one stretch lead to one another.
use Rattle.std.specs.Prelude.{◌≡◌, ◌↔◌, ◌⊎◌, ℕ, ◌<◌, ◌≤◌, Bool, false, IsTrue, List, length, slice_index_or}
use Rattle.std.specs.List.{Contains}
use Rattle.al_base_graph.specs.Graphs.{successors_of, Step, Reaches, IsOnCycle, IsAscending}
use Rattle.al_base_graph.specs.declared.walk.Walk.{Walk}
use Rattle.al_base_graph.specs.declared.walk.Place.{Place}
use Rattle.al_base_graph.specs.declared.walk.Place.TheVariants.{Unseen, OnPath, Done}

abbrev pub place_of : List Place → ℕ → Place
place_of places a = slice_index_or places a Unseen

-- no stretch begins after j, up to i
abbrev pub IsJoined : List ℕ → ℕ → ℕ → Type 0
IsJoined begins j i = (b : ℕ) → Contains begins b → j < b → i < b

-- a step from place i of the path, to a node that is done, or in the same stretch, or further on
abbrev pub IsSettled : List Place → List ℕ → ℕ → ℕ → Type 0
IsSettled places begins i a = (place_of places a ≡ Done) ⊎ ((j : ℕ) × (place_of places a ≡ OnPath j) × IsJoined begins j i)

-- the walk: what is known of each node, how many of its successors are still to be looked at (the first ones), the path, the places
-- of the path that are visited, those at which a stretch begins, and for the nodes that are done, whether they are on a cycle
pub record IsWalk (g : List (List ℕ)) (places : List Place) (left path visiting begins : List ℕ) (flags : List Bool) : Type 0 where
  pub places_count : length places ≡ length g
  pub left_count : length left ≡ length g
  pub flags_count : length flags ≡ length g
  pub on_path : (i : ℕ) → i < length path → place_of places (slice_index_or path i 0) ≡ OnPath i
  pub of_path : (a i : ℕ) → place_of places a ≡ OnPath i → (i < length path) × (slice_index_or path i 0 ≡ a)
  pub left_fits : (a : ℕ) → slice_index_or left a 0 ≤ length (successors_of g a)
  pub unseen_left : (a : ℕ) → place_of places a ≡ Unseen → slice_index_or left a 0 ≡ length (successors_of g a)
  pub leads_on : (i j : ℕ) → i ≤ j → j < length path → Reaches g (slice_index_or path i 0) (slice_index_or path j 0)
  pub leads_back : (i j : ℕ) → j ≤ i → i < length path → IsJoined begins j i → Reaches g (slice_index_or path i 0) (slice_index_or path j 0)
  pub looked_at : (i k : ℕ) → i < length path → slice_index_or left (slice_index_or path i 0) 0 ≤ k → k < length (successors_of g (slice_index_or path i 0)) → IsSettled places begins i (slice_index_or (successors_of g (slice_index_or path i 0)) k 0)
  pub visiting_or_all : (i : ℕ) → i < length path → Contains visiting i ⊎ (slice_index_or left (slice_index_or path i 0) 0 ≡ 0)
  pub visiting_within : (i : ℕ) → Contains visiting i → i < length path
  pub visiting_ascends : IsAscending visiting
  pub begins_ascend : IsAscending begins
  pub begins_visiting : (i : ℕ) → Contains begins i → Contains visiting i
  pub first_begins : 0 < length path → Contains begins 0
  pub done_closed : (a b : ℕ) → place_of places a ≡ Done → Step g a b → place_of places b ≡ Done
  pub done_flags : (a : ℕ) → place_of places a ≡ Done → IsTrue (slice_index_or flags a false) ↔ IsOnCycle g a

-- the laws of a walk, for the walk of the code
abbrev pub Walks : List (List ℕ) → Walk → Type 0
Walks g walk = IsWalk g walk.places.items walk.left.items walk.path.items walk.visiting.items walk.begins.items walk.flags.items

-- what is unseen afterwards was unseen before
abbrev pub KeepsSeen : List Place → List Place → Type 0
KeepsSeen old new = (a : ℕ) → place_of new a ≡ Unseen → place_of old a ≡ Unseen

-- some numbers of an ascending list, those up to a bound
pub record IsCut (old new : List ℕ) (most : ℕ) : Type 0 where
  pub ascends : IsAscending new
  pub only : (a : ℕ) → Contains new a → Contains old a × (a ≤ most)
  pub all : (a : ℕ) → Contains old a → a ≤ most → Contains new a
