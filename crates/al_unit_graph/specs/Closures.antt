-- What steps from unit to unit lead to, and lists that take an item once.
use Rattle.std.specs.Prelude.{◌≡◌, ◌&&◌, ◌++◌, Bool, List, [], ◌∷◌, if◌then◌else◌}
use Rattle.std.specs.Option.{option_map_or}
use Rattle.std.specs.List.{list_any}
use Rattle.std.specs.Str.{bytes_eq}
use Rattle.al_base.specs.Batch.{Key}
use Rattle.al_unit_graph.specs.Headers.{Library}
use Rattle.al_unit_graph.specs.Library.{unit_at, is_kind}
use Rattle.al_unit_graph.specs.Needed.{body_of, subunits_of}
use Rattle.al_unit_graph.specs.Dependence.{direct}
use Rattle.al_unit_graph.specs.declared.closure.Step.{Step}
use Rattle.al_unit_graph.specs.declared.closure.Step.TheVariants.{Dependence, Need}

-- what a needed unit needs by itself
abbrev pub needs : Library → Key → List Key
needs lib key = (direct lib key ++ body_of lib key) ++ option_map_or (subunits_of lib key.0) (unit_at lib key) []

-- what one step leads to
abbrev pub next : Library → Step → Key → List Key
next lib Dependence key = direct lib key
next lib Need key = needs lib key

abbrev pub is_same_key : Key → Key → Bool
is_same_key a b = bytes_eq a.0 b.0 && is_kind a.1 b.1

-- the items with this one at the end, if it isn't there yet
abbrev pub with_item : {X : Type 0} → (X → X → Bool) → List X → X → List X
with_item is_same xs x = if list_any (λ y. is_same y x) xs then xs else xs ++ x ∷ []

abbrev pub with_items : {X : Type 0} → (X → X → Bool) → List X → List X → List X
with_items is_same xs [] = xs
with_items is_same xs (y ∷ ys) = with_items is_same (with_item is_same xs y) ys

-- two lists of which each has the items of the other
pub record AreAlike {X : Type 0} (is_same : X → X → Bool) (xs ys : List X) : Type 0 where
  pub alike : (x : X) → list_any (λ y. is_same y x) xs ≡ list_any (λ y. is_same y x) ys
