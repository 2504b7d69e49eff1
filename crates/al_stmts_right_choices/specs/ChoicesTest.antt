-- A test that decides whether the choices of a case statement are right (ARM 5.4(5 to 10)).
use Rattle.std.specs.Prelude.{Bool, true, not, ◌&&◌, ◌||◌, ◌==◌, nat_le, nat_lt, List, [], ◌∷◌, length, ℤ, pos, ◌+ℤ◌}
use Rattle.std.specs.List.{list_all, list_any}
use Rattle.al_stmts.specs.Choosing.{covered_by, has_others, is_of_type, ranges_of}
use Rattle.al_stmts.specs.Values.{has_values, holds, times_chosen}
use Rattle.al_stmts.specs.declared.choice.Choice.{Choice}
use Rattle.al_stmts.specs.declared.choice.Selector.{Selector}
use Rattle.al_stmts.specs.declared.choice.Selector.TheVariants.{OfSubtype, OfType}
use Rattle.al_view.specs.declared.types.Bounds.{Bounds}

-- `others` is the only choice of the last alternative
abbrev pub others_in_place : List (List Choice) → Bool
others_in_place [] = true
others_in_place (a ∷ []) = not (has_others a) || length a == 1
others_in_place (a ∷ b ∷ more) = not (has_others a) && others_in_place (b ∷ more)

-- no value is chosen twice: if two ranges have a value in common, they have the low bound of one
abbrev pub is_once : List Bounds → Bounds → Bool
is_once ranges r = nat_le (times_chosen ranges r.low) 1

abbrev pub chosen_once : List Bounds → Bool
chosen_once ranges = list_all (is_once ranges) ranges

-- a range with values lies within other bounds
abbrev pub lies_within : Bounds → Bounds → Bool
lies_within bounds r = not (has_values r) || (holds bounds r.low && holds bounds r.high)

abbrev pub stays_within : Selector → List Bounds → Bool
stays_within (OfSubtype bounds) ranges = list_all (lies_within bounds) ranges
stays_within (OfType bounds) ranges = true

abbrev pub is_chosen : List Bounds → ℤ → Bool
is_chosen ranges v = nat_lt 0 (times_chosen ranges v)

-- the value after a range is chosen, if it is wanted
abbrev pub goes_on : List Bounds → Bounds → Bounds → Bool
goes_on ranges bounds r = not (holds bounds (r.high +ℤ pos 1)) || is_chosen ranges (r.high +ℤ pos 1)

-- the first value is chosen, and what comes after each range
abbrev pub covers : List Bounds → Bounds → Bool
covers ranges bounds = not (has_values bounds) || (is_chosen ranges bounds.low && list_all (goes_on ranges bounds) ranges)

abbrev pub ranges_right : Selector → Bool → List Bounds → Bool
ranges_right selector others ranges = chosen_once ranges && (stays_within selector ranges && (others || covers ranges (covered_by selector)))

abbrev pub choices_right : Selector → List (List Choice) → Bool
choices_right selector alternatives =
    list_all (list_all is_of_type) alternatives
    && (others_in_place alternatives && ranges_right selector (list_any has_others alternatives) (ranges_of alternatives))
