-- Ranges that are apart.
use Rattle.std.proofs.Common.{◌≡◌, ◌+◌, ◌-◌, ◌∷◌, [], ℕ, ◌<◌, ◌≤◌, ℤ, ◌≤ℤ◌, ◌<ℤ◌, Bool, true, false, zero, suc, List, length, get_or, ap, sym, subst, ◌∙◌, refl, arith, cond}
use Rattle.std.specs.List.{All, AllAdjacentBelow, AllPairs}
use Rattle.std.specs.List.Sorted.{IsSortedByKey}
use Rattle.std.specs.Ordering.{int_cmp, is_lt}
use Rattle.std.proofs.lemmas.Int.{ints, by_lt_z}
use Rattle.std.proofs.lemmas.List.Sums.{sum_by-cons}
use Rattle.al_view.specs.declared.types.Bounds.{Bounds}
use Rattle.al_stmts.specs.Values.{AreApart, has_values, holds, times_chosen}
use Rattle.al_stmts.proofs.HoldsLemmas.{has_values_from, holds_inside, holds_low, holds_upto, none_before}
use Rattle.al_stmts.proofs.TimesLemmas.{chosen_twice, none_chosen}

through : (a b c e : ℤ) → a <ℤ b → b ≤ℤ c → c <ℤ e → a <ℤ e
through a b c e h k l = omega (arith, ints)

-- neighbours that are apart are apart from all
pub apart_from_neighbours : (rs : List Bounds) → All (λ r. has_values r ≡ true) rs → AllAdjacentBelow (λ a b. a.high <ℤ b.low) rs (length rs) → AreApart rs
apart_from_neighbours rs some adjacent = λ i j d lt in'. far (j - (i + 1)) i j d (omega arith) in'
  where
    far : (n i j : ℕ) (d : Bounds) → j ≡ i + 1 + n → j < length rs → (get_or rs i d).high <ℤ (get_or rs j d).low
    far zero i j d e lt =
        let P : ℕ → Type 0 = λ m. (get_or rs i d).high <ℤ (get_or rs m d).low in
        let same : i + 1 ≡ j = omega arith in
        subst P same (adjacent i d (omega arith))
    far (suc n) i j d e lt =
        let P : ℕ → Type 0 = λ m. (get_or rs i d).high <ℤ (get_or rs m d).low in
        let m = i + 1 + n in
        let same : m + 1 ≡ j = omega arith in
        subst P same (through _ _ _ _ (far n i m d refl (omega arith)) (has_values_from (get_or rs m d) (some m d (omega arith))) (adjacent m d (omega arith)))

le_lt : (a b c : ℤ) → a ≤ℤ b → b <ℤ c → a <ℤ c
le_lt a b c h k = omega (arith, ints)

-- of ranges that are apart no two have a value
pub apart_once : (rs : List Bounds) (v : ℤ) → AreApart rs → times_chosen rs v ≤ 1
apart_once [] v apart = omega arith
apart_once (r ∷ rs) v apart = case (holds r v) refl (apart_once rs v rest)
  where
    rest : AreApart rs
    rest = λ i j d lt in'. apart (suc i) (suc j) d (omega arith) (omega arith)

    case : (t : Bool) → holds r v ≡ t → times_chosen rs v ≤ 1 → times_chosen (r ∷ rs) v ≤ 1
    case false e later = omega (arith, sum_by-cons (λ b. cond (holds b v) 1 0) r rs, ap {B = ℕ} (λ t. cond t 1 0) e)
    case true e later =
        let others : times_chosen rs v ≡ 0 = none_chosen rs v (λ k d lt. none_before (get_or rs k d) v (le_lt _ _ _ (holds_upto r v e) (apart zero (suc k) d (omega arith) (omega arith)))) in
        omega (arith, sum_by-cons (λ b. cond (holds b v) 1 0) r rs, ap {B = ℕ} (λ t. cond t 1 0) e)

-- what the sort says of neighbours
low_rises : (a b : ℤ) → is_lt (int_cmp b a) ≡ false → a ≤ℤ b
low_rises a b h = grind (arith, ints)

-- two neighbours that aren't apart have a value
meet : (rs : List Bounds) (j : ℕ) (d : Bounds) → All (λ r. has_values r ≡ true) rs → IsSortedByKey (λ r. r.low) int_cmp rs → j + 1 < length rs
    → ((get_or rs j d).high <ℤ (get_or rs (j + 1) d).low → ⊥) → (v : ℤ) × (1 < times_chosen rs v)
meet rs j d some sorted lt not_apart =
    let one = get_or rs j d in
    let two = get_or rs (j + 1) d in
    let rises : one.low ≤ℤ two.low = low_rises _ _ (sorted j d (omega arith) lt) in
    let reaches : two.low ≤ℤ one.high = by_lt_z one.high two.low (λ h. absurd (not_apart h)) (λ h. h) in
    (two.low, chosen_twice rs two.low j d lt (holds_inside one two.low rises reaches) (holds_low two (some (j + 1) d lt)))

pub neighbours_meet : (rs : List Bounds) (i : ℕ) (d : Bounds) → All (λ r. has_values r ≡ true) rs → IsSortedByKey (λ r. r.low) int_cmp rs → 0 < i → i < length rs
    → ((get_or rs (i - 1) d).high <ℤ (get_or rs i d).low → ⊥) → (v : ℤ) × (1 < times_chosen rs v)
neighbours_meet rs i d some sorted above lt not_apart =
    let P : ℕ → Type 0 = λ m. (get_or rs (i - 1) d).high <ℤ (get_or rs m d).low → ⊥ in
    let same : i ≡ i - 1 + 1 = omega arith in
    meet rs (i - 1) d some sorted (omega arith) (subst P same not_apart)
