-- Values that ranges stay within, and values that they cover.
use Rattle.std.proofs.Common.{◌≡◌, ℕ, zero, suc, ◌+◌, ◌-◌, ◌<◌, ℤ, pos, negsuc, ◌+ℤ◌, ◌≤ℤ◌, ◌<ℤ◌, Bool, true, false, ◌&&◌, List, [], ◌∷◌, refl, subst, sym, arith, ◌⊎◌, inl, inr}
use Rattle.std.specs.List.{list_all}
use Rattle.std.proofs.lemmas.Bool.{and_from, ltb-true, lt-ltb}
use Rattle.std.proofs.lemmas.Int.{ints, by_lt_z}
use Rattle.al_view.specs.declared.types.Bounds.{Bounds}
use Rattle.al_stmts.specs.Choosing.{Covers, StaysWithin}
use Rattle.al_stmts.specs.Values.{has_values, holds, times_chosen}
use Rattle.al_stmts.specs.declared.choice.Selector.{Selector}
use Rattle.al_stmts.specs.declared.choice.Selector.TheVariants.{OfSubtype, OfType}
use Rattle.al_stmts.proofs.HoldsLemmas.{holds_from, holds_high, holds_inside, holds_low, holds_upto}
use Rattle.al_stmts_right_choices.specs.ChoicesTest.{covers, goes_on, is_chosen, lies_within, stays_within}
use Rattle.al_stmts_right_choices.proofs.Tests.{all_hold, both_left, both_right, or_else, or_if}
use Rattle.al_stmts_right_choices.proofs.Times.{no_fewer, times_no, times_yes}

le_le : (a b c : ℤ) → a ≤ℤ b → b ≤ℤ c → a ≤ℤ c
le_le a b c h k = omega (arith, ints)

values : (a b : Bounds) → a.low ≤ℤ a.high → has_values a ≡ true
values a b h = grind (arith, ints)

some_values : (r : Bounds) (v : ℤ) → holds r v ≡ true → has_values r ≡ true
some_values r v h = values r r (le_le r.low v r.high (holds_from r v h) (holds_upto r v h))

chosen : (rs : List Bounds) (v : ℤ) → is_chosen rs v ≡ true → 0 < times_chosen rs v
chosen rs v h = ltb-true 0 (times_chosen rs v) h

is_so : (rs : List Bounds) (v : ℤ) → 0 < times_chosen rs v → is_chosen rs v ≡ true
is_so rs v h = lt-ltb 0 (times_chosen rs v) h

-- ---- ranges that stay within bounds

within : (b : Bounds) (rs : List Bounds) → list_all (lies_within b) rs ≡ true → (v : ℤ) → 0 < times_chosen rs v → holds b v ≡ true
within b [] h v some = absurd (omega arith)
within b (r ∷ rs) h v some = case (holds r v) refl (λ one. within b rs (both_right (lies_within b r) (list_all (lies_within b) rs) h) v one)
  where
    case : (t : Bool) → holds r v ≡ t → (0 < times_chosen rs v → holds b v ≡ true) → holds b v ≡ true
    case true e more =
        let both = or_else (has_values r) (holds b r.low && holds b r.high) (both_left (lies_within b r) (list_all (lies_within b) rs) h) (some_values r v e) in
        holds_inside b v
        (le_le b.low r.low v (holds_from b r.low (both_left (holds b r.low) (holds b r.high) both)) (holds_from r v e))
        (le_le v r.high b.high (holds_upto r v e) (holds_upto b r.high (both_right (holds b r.low) (holds b r.high) both)))
    case false e more = more (omega (arith, times_no r rs v e))

within_if : (b : Bounds) (rs : List Bounds) → ((v : ℤ) → 0 < times_chosen rs v → holds b v ≡ true) → list_all (lies_within b) rs ≡ true
within_if b [] h = refl
within_if b (r ∷ rs) h =
    and_from (lies_within b r) (list_all (lies_within b) rs)
    (or_if (has_values r) (holds b r.low && holds b r.high)
    (λ some. and_from (holds b r.low) (holds b r.high) (h r.low (omega (arith, times_yes r rs r.low (holds_low r some)))) (h r.high (omega (arith, times_yes r rs r.high (holds_high r some))))))
    (within_if b rs (λ v one. h v (omega (arith, no_fewer r rs v))))

pub stays : (s : Selector) (rs : List Bounds) → stays_within s rs ≡ true → StaysWithin s rs
stays (OfSubtype b) rs h = within b rs h
stays (OfType b) rs h = tt

pub stays_if : (s : Selector) (rs : List Bounds) → StaysWithin s rs → stays_within s rs ≡ true
stays_if (OfSubtype b) rs h = within_if b rs h
stays_if (OfType b) rs h = refl

-- ---- ranges that cover values

pub covers_if : (rs : List Bounds) (b : Bounds) → Covers rs b → covers rs b ≡ true
covers_if rs b h =
    or_if (has_values b) (is_chosen rs b.low && list_all (goes_on rs b) rs)
    (λ some. and_from (is_chosen rs b.low) (list_all (goes_on rs b) rs) (is_so rs b.low (h b.low (holds_low b some)))
    (all_hold (goes_on rs b) (λ r. or_if (holds b (r.high +ℤ pos 1)) (is_chosen rs (r.high +ℤ pos 1)) (λ wanted. is_so rs (r.high +ℤ pos 1) (h (r.high +ℤ pos 1) wanted))) rs))

same_next : (a b : ℤ) → a ≤ℤ b → b <ℤ (a +ℤ pos 1) → b +ℤ pos 1 ≡ a +ℤ pos 1
same_next a b h k = omega (arith, ints)

-- after a value that some of the ranges have is one that they have, or one that is chosen
next : (all : List Bounds) (b : Bounds) (rs : List Bounds) (v : ℤ) → list_all (goes_on all b) rs ≡ true → 0 < times_chosen rs v → holds b (v +ℤ pos 1) ≡ true → (0 < times_chosen rs (v +ℤ pos 1)) ⊎ (0 < times_chosen all (v +ℤ pos 1))
next all b [] v h some wanted = absurd (omega arith)
next all b (r ∷ rs) v h some wanted = case (holds r v) refl (λ one. next all b rs v (both_right (goes_on all b r) (list_all (goes_on all b) rs) h) one wanted)
  where
    lift : (0 < times_chosen rs (v +ℤ pos 1)) ⊎ (0 < times_chosen all (v +ℤ pos 1)) → (0 < times_chosen (r ∷ rs) (v +ℤ pos 1)) ⊎ (0 < times_chosen all (v +ℤ pos 1))
    lift (inl x) = inl (omega (arith, no_fewer r rs (v +ℤ pos 1)))
    lift (inr x) = inr x

    le_next : r.low ≤ℤ v → r.low ≤ℤ (v +ℤ pos 1)
    le_next k = omega (arith, ints)

    case : (t : Bool) → holds r v ≡ t → (0 < times_chosen rs v → (0 < times_chosen rs (v +ℤ pos 1)) ⊎ (0 < times_chosen all (v +ℤ pos 1)))
        → (0 < times_chosen (r ∷ rs) (v +ℤ pos 1)) ⊎ (0 < times_chosen all (v +ℤ pos 1))
    case true e more = by_lt_z r.high (v +ℤ pos 1)
        (λ ends.
        let at = same_next v r.high (holds_upto r v e) ends in
        let P : ℤ → Type 0 = λ w. holds b w ≡ true → is_chosen all w ≡ true in
        let step : P (r.high +ℤ pos 1) = or_else (holds b (r.high +ℤ pos 1)) (is_chosen all (r.high +ℤ pos 1)) (both_left (goes_on all b r) (list_all (goes_on all b) rs) h) in
        inr (chosen all (v +ℤ pos 1) (subst P at step wanted)))
        (λ inside. inl (omega (arith, times_yes r rs (v +ℤ pos 1) (holds_inside r (v +ℤ pos 1) (le_next (holds_from r v e)) inside))))
    case false e more = lift (more (omega (arith, times_no r rs v e)))

-- one value further
step : (rs : List Bounds) (b : Bounds) → list_all (goes_on rs b) rs ≡ true → (u v : ℤ) → u ≤ℤ v → b.low ≤ℤ u → v ≡ u +ℤ pos 1 → v ≤ℤ b.high → 0 < times_chosen rs u → 0 < times_chosen rs v
step rs b more u v le low e high before = let P : ℤ → Type 0 = λ w. 0 < times_chosen rs w in subst P (sym e) (merge (next rs b rs u more before wanted))
  where
    from_low : b.low ≤ℤ (u +ℤ pos 1)
    from_low = omega (arith, ints)

    to_high : (u +ℤ pos 1) ≤ℤ b.high
    to_high = omega (arith, ints)

    wanted : holds b (u +ℤ pos 1) ≡ true
    wanted = holds_inside b (u +ℤ pos 1) from_low to_high

    merge : (0 < times_chosen rs (u +ℤ pos 1)) ⊎ (0 < times_chosen rs (u +ℤ pos 1)) → 0 < times_chosen rs (u +ℤ pos 1)
    merge (inl x) = x
    merge (inr x) = x

-- all values from the low bound on
upto : (rs : List Bounds) (b : Bounds) → is_chosen rs b.low ≡ true → list_all (goes_on rs b) rs ≡ true → (n : ℕ) (v : ℤ) → v ≡ b.low +ℤ pos n → v ≤ℤ b.high → 0 < times_chosen rs v
upto rs b first more zero v e h =
    let at : b.low ≡ v = omega (arith, ints) in
    let P : ℤ → Type 0 = λ w. 0 < times_chosen rs w in
    subst P at (chosen rs b.low first)
upto rs b first more (suc n) v e h = step rs b more (b.low +ℤ pos n) v before_it low_it next_it h (upto rs b first more n (b.low +ℤ pos n) refl below)
  where
    next_it : v ≡ (b.low +ℤ pos n) +ℤ pos 1
    next_it = omega (arith, ints)

    low_it : b.low ≤ℤ (b.low +ℤ pos n)
    low_it = omega (arith, ints)

    before_it : (b.low +ℤ pos n) ≤ℤ v
    before_it = omega (arith, ints)

    below : (b.low +ℤ pos n) ≤ℤ b.high
    below = omega (arith, ints)

distance : (a b : ℤ) → a ≤ℤ b → (n : ℕ) × (b ≡ a +ℤ pos n)
distance (pos a) (pos b) h = (b - a, omega (arith, ints))
distance (pos a) (negsuc b) h = absurd (omega (arith, ints))
distance (negsuc a) (pos b) h = (b + suc a, omega (arith, ints))
distance (negsuc a) (negsuc b) h = (a - b, omega (arith, ints))

pub covering : (rs : List Bounds) (b : Bounds) → covers rs b ≡ true → Covers rs b
covering rs b h v wanted =
    let some = some_values b v wanted in
    let both = or_else (has_values b) (is_chosen rs b.low && list_all (goes_on rs b) rs) h some in
    let far = distance b.low v (holds_from b v wanted) in
    upto rs b (both_left (is_chosen rs b.low) (list_all (goes_on rs b) rs) both) (both_right (is_chosen rs b.low) (list_all (goes_on rs b) rs) both) far.0 v far.1 (holds_upto b v wanted)
