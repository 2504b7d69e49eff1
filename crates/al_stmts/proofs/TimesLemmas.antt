-- How often a value is chosen.
use Rattle.std.proofs.Common.{◌≡◌, ◌+◌, ◌-◌, ◌∷◌, [], ℕ, ◌<◌, ◌≤◌, ℤ, ◌≤ℤ◌, ◌<ℤ◌, Bool, true, false, cond, zero, suc, List, length, get_or, take, ap, sym, subst, ◌∙◌, refl, arith, ◌⊎◌, inl, inr}
use Rattle.std.specs.List.{All, AllPairs, AllWithin, sum_by}
use Rattle.std.proofs.lemmas.Bool.{cases_lt}
use Rattle.std.proofs.lemmas.Int.{ints}
use Rattle.std.proofs.lemmas.List.Elements.{All-weaker}
use Rattle.std.proofs.lemmas.List.Sums.{get_or-le-sum_by, sum_by-cons, sum_by-le, sum_by-take-le, sum_by_more}
use Rattle.al_view.specs.declared.types.Bounds.{Bounds}
use Rattle.al_stmts.specs.Values.{AreApart, has_values, holds, times_chosen}
use Rattle.al_stmts.proofs.HoldsLemmas.{holds_from, holds_high, holds_low, holds_upto, none_before, none_after, none_within}

abbrev in_range : ℤ → Bounds → ℕ
in_range v r = cond (holds r v) 1 0

is_one : (v : ℤ) (r : Bounds) → holds r v ≡ true → in_range v r ≡ 1
is_one v r h = ap (λ t. cond t 1 0) h

is_none : (v : ℤ) (r : Bounds) → holds r v ≡ false → in_range v r ≡ 0
is_none v r h = ap (λ t. cond t 1 0) h

-- a value of one of the ranges is chosen
pub chosen_at : (rs : List Bounds) (v : ℤ) (k : ℕ) (d : Bounds) → k < length rs → holds (get_or rs k d) v ≡ true → 0 < times_chosen rs v
chosen_at rs v k d lt h = omega (arith, get_or-le-sum_by (in_range v) rs k d lt, is_one v (get_or rs k d) h)

-- and so it is if more ranges come after
pub chosen_more : (rs : List Bounds) (v : ℤ) (n : ℕ) → 0 < times_chosen (take n rs) v → 0 < times_chosen rs v
chosen_more rs v n h = omega (arith, sum_by-take-le (in_range v) rs n)

-- a value of none of the ranges is not chosen
pub none_chosen : (rs : List Bounds) (v : ℤ) → All (λ r. holds r v ≡ false) rs → times_chosen rs v ≡ 0
none_chosen rs v all =
    let none : All (λ r. in_range v r ≤ 0) rs = λ k d lt. omega (arith, is_none v (get_or rs k d) (all k d lt)) in
    omega (arith, sum_by-le (in_range v) 0 rs none)

-- a value of two neighbours is chosen twice
pub chosen_twice : (rs : List Bounds) (v : ℤ) (j : ℕ) (d : Bounds) → j + 1 < length rs → holds (get_or rs j d) v ≡ true → holds (get_or rs (j + 1) d) v ≡ true → 1 < times_chosen rs v
chosen_twice rs v j d lt one two =
    omega (arith, sum_by_more (in_range v) rs j d (omega arith), sum_by_more (in_range v) rs (j + 1) d lt, sum_by-take-le (in_range v) rs (j + 1 + 1), is_one v (get_or rs j d) one, is_one v (get_or rs (j + 1) d) two)

-- if all ranges lie within another one, so do the chosen values
pub chosen_within : (rs : List Bounds) (whole : Bounds) (v : ℤ) → All (λ r. (whole.low ≤ℤ r.low) × (r.high ≤ℤ whole.high)) rs → 0 < times_chosen rs v → (t : Bool) → holds whole v ≡ t → t ≡ true
chosen_within rs whole v all some true e = refl
chosen_within rs whole v all some false e =
    absurd (omega (arith, none_chosen rs v (λ k d lt. none_within (get_or rs k d) whole v (all k d lt).0 (all k d lt).1 e)))

-- a value before which some ranges end, and before the others
pub none_between : (rs : List Bounds) (v : ℤ) (n : ℕ) → AllWithin (λ r. r.high <ℤ v) rs 0 n → AllWithin (λ r. v <ℤ r.low) rs n (length rs) → times_chosen rs v ≡ 0
none_between rs v n before after =
    none_chosen rs v (λ k d lt. elim (cases_lt k n) [ inl l ↦ none_after (get_or rs k d) v (before k d (omega arith) l) | inr h ↦ none_before (get_or rs k d) v (after k d h lt) ])

-- if all chosen values lie within a range, so do the bounds of the ranges
pub bounds_within : (rs : List Bounds) (whole : Bounds) (n : ℕ) (e : Bounds) → n < length rs → All (λ r. has_values r ≡ true) rs → ((v : ℤ) → 0 < times_chosen rs v → holds whole v ≡ true)
    → (whole.low ≤ℤ (get_or rs n e).low) × ((get_or rs n e).high ≤ℤ whole.high)
bounds_within rs whole n e lt some all =
    let r = get_or rs n e in (
      holds_from whole r.low (all r.low (chosen_at rs r.low n e lt (holds_low r (some n e lt)))),
      holds_upto whole r.high (all r.high (chosen_at rs r.high n e lt (holds_high r (some n e lt)))),
    )
