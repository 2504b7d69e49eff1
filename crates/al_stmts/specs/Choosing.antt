-- When the choices of a case statement are right (ARM 5.4).
use Rattle.std.specs.Prelude.{◌≡◌, ℕ, ◌+◌, ◌<◌, ◌≤◌, Bool, true, false, List, [], ◌∷◌, length, Option, Some, None, ℤ, IsTrue, IsFalse, EachIndex, slice_index_or, if◌then◌else◌}
use Rattle.std.specs.List.{flat_map, filter_map, list_all, list_any}
use Rattle.al_view.specs.declared.types.Bounds.{Bounds}
use Rattle.al_stmts.specs.declared.choice.Choice.{Choice}
use Rattle.al_stmts.specs.declared.choice.Choice.TheVariants.{Range, OfOtherType, Others}
use Rattle.al_stmts.specs.declared.choice.Selector.{Selector}
use Rattle.al_stmts.specs.declared.choice.Selector.TheVariants.{OfSubtype, OfType}
use Rattle.al_stmts.specs.Values.{has_values, holds, times_chosen}

abbrev pub range_of : Choice → Option Bounds
range_of (Range bounds) = Some bounds
range_of _ = None

-- the range of a choice, if it has values
abbrev pub value_range : Choice → Option Bounds
value_range (Range bounds) = if has_values bounds then Some bounds else None
value_range _ = None

-- the ranges of all choices, in source order
abbrev pub ranges_of : List (List Choice) → List Bounds
ranges_of alternatives = flat_map (filter_map range_of) alternatives

abbrev pub is_others : Choice → Bool
is_others Others = true
is_others _ = false

abbrev pub is_of_type : Choice → Bool
is_of_type OfOtherType = false
is_of_type _ = true

abbrev pub has_others : List Choice → Bool
has_others choices = list_any is_others choices

-- if an alternative has `others`, that is its only choice, and the alternative is the last one (ARM 5.4(5))
abbrev pub OthersIsAloneAndLast : List (List Choice) → Type 0
OthersIsAloneAndLast alternatives =
    EachIndex alternatives (λ i. IsTrue (has_others (slice_index_or alternatives i [])) → (length (slice_index_or alternatives i []) ≡ 1) × (i + 1 ≡ length alternatives))

-- the range of the values that the choices cover: those of the selector's subtype, if that is static, else of its type
abbrev pub covered_by : Selector → Bounds
covered_by (OfSubtype bounds) = bounds
covered_by (OfType bounds) = bounds

-- a selector of a static subtype has no other values, so none is chosen (ARM 5.4(7))
abbrev pub StaysWithin : Selector → List Bounds → Type 0
StaysWithin (OfSubtype bounds) ranges = (v : ℤ) → 0 < times_chosen ranges v → IsTrue (holds bounds v)
StaysWithin (OfType bounds) ranges = Unit {0}

-- each of these values is chosen (ARM 5.4(6))
abbrev pub Covers : List Bounds → Bounds → Type 0
Covers ranges bounds = (v : ℤ) → IsTrue (holds bounds v) → 0 < times_chosen ranges v

-- the ranges are right
pub record ChoosesRight (selector : Selector) (has_others : Bool) (ranges : List Bounds) : Type 0 where
  -- no value is chosen twice
  pub once : (v : ℤ) → times_chosen ranges v ≤ 1
  pub within : StaysWithin selector ranges
  -- without `others` all values are chosen
  pub complete : IsFalse has_others → Covers ranges (covered_by selector)

-- the choices of a case statement are right (ARM 5.4(5 to 10))
pub record AreRight (selector : Selector) (alternatives : List (List Choice)) : Type 0 where
  -- a mark in one is of the selector's type
  pub of_type : IsTrue (list_all (list_all is_of_type) alternatives)
  pub others : OthersIsAloneAndLast alternatives
  pub ranges : ChoosesRight selector (list_any has_others alternatives) (ranges_of alternatives)
