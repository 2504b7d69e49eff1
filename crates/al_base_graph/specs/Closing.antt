-- Least sets that are closed under steps between any items, and such a set as a list.
use Rattle.std.specs.Prelude.{◌≡◌, ℕ, zero, suc, Bool, List, [], ◌∷◌, ◌++◌, Option, Some, None, length, if◌then◌else◌, ◌↔◌}
use Rattle.std.specs.Bool.{Decides}
use Rattle.std.specs.Option.{option_map, option_map_or}
use Rattle.std.specs.List.{Contains, list_any, flat_map}

-- the least set that holds the first items and what one step leads to
pub data Reached {X : Type 0} (next : X → List X) (first : List X) : X → Type 0 where
  start : {x : X} → Contains first x → Reached next first x
  further : {x y : X} → Reached next first x → Contains (next x) y → Reached next first y

-- an item that is the same as this one is in the list
abbrev pub is_among : {X : Type 0} → (X → X → Bool) → X → List X → Bool
is_among same x xs = list_any (same x) xs

-- one step leads from an item of the list to this one
abbrev pub is_next : {X : Type 0} → (X → X → Bool) → (X → List X) → List X → X → Bool
is_next same next xs x = list_any (λ y. is_among same x (next y)) xs

-- the first item that passes a test, and the others
abbrev pub pick : {X : Type 0} → (X → Bool) → List X → Option (X × List X)
pick p [] = None
pick p (x ∷ xs) = if p x then Some (x, xs) else option_map (λ r. (r.0, x ∷ r.1)) (pick p xs)

-- of the others, the first one to which a step leads joins the items; this so many times, or until there is none
abbrev pub grow : {X : Type 0} → (X → X → Bool) → (X → List X) → ℕ → List X → List X → List X
grow same next zero xs others = xs
grow same next (suc n) xs others =
    option_map_or (λ r. grow same next n (xs ++ r.0 ∷ []) r.1) (pick (is_next same next xs) others) xs

-- all that is reached from the first items by steps that begin at one of the nodes
unfoldable pub closing : {X : Type 0} → (X → X → Bool) → (X → List X) → List X → List X → List X
closing same next nodes first = grow same next (length (flat_map next nodes)) first (flat_map next nodes)

-- a test of which items are equal
abbrev pub IsEquality : {X : Type 0} → (X → X → Bool) → Type 0
IsEquality {X = X} same = (a b : X) → Decides (same a b) (a ≡ b)

-- each step begins at one of the nodes
abbrev pub BeginsAt : {X : Type 0} → (X → List X) → List X → Type 0
BeginsAt {X = X} next nodes = (x y : X) → Contains (next x) y → Contains nodes x

-- The list has all that is reached, and nothing else.
abbrev pub ClosingIsReached : Type 0 → Type 0
ClosingIsReached X =
    (same : X → X → Bool) (next : X → List X) (nodes first : List X) → IsEquality same → BeginsAt next nodes → (x : X) → Contains (closing same next nodes first) x ↔ Reached next first x
