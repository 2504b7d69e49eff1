-- Where the components of records begin.
use Rattle.std.proofs.Common.{◌≡◌, ℕ, ◌+◌, ◌<◌, ◌≤◌, zero, suc, List, [], ◌∷◌, ◌++◌, length, take, sum, get_or, ap, ◌∙◌, arith}
use Rattle.std.proofs.lemmas.List.Sums.{sum_by-cons, sum_by_more_le}
use Rattle.al_decl_judged.specs.Layouts.{offsets_from}
use Rattle.al_decl_judged.specs.Laws.{ComponentsAreApart}

-- one more component begins where those before it end
pub offsets_from-push : (place : ℕ) (ws : List ℕ) (w : ℕ) → offsets_from place (ws ++ w ∷ []) ≡ offsets_from place ws ++ (place + sum ws) ∷ []
offsets_from-push place [] w = let e : place ≡ place + sum [] = omega arith in ap (λ (n : ℕ). n ∷ []) e
offsets_from-push place (v ∷ vs) w =
    let e : place + v + sum vs ≡ place + sum (v ∷ vs) = omega (arith, sum_by-cons (λ (x : ℕ). x) v vs) in
    ap (λ (l : List ℕ). place ∷ l) (offsets_from-push (place + v) vs w ∙ ap (λ (n : ℕ). offsets_from (place + v) vs ++ n ∷ []) e)

-- where a component begins
offsets_from-at : (place : ℕ) (ws : List ℕ) (i : ℕ) → i < length ws → get_or (offsets_from place ws) i 0 ≡ place + sum (take i ws)
offsets_from-at place [] i h = absurd (omega arith)
offsets_from-at place (w ∷ ws) zero h = omega arith
offsets_from-at place (w ∷ ws) (suc i) h =
    let inside : i < length ws = omega arith in
    let e : place + w + sum (take i ws) ≡ place + sum (w ∷ take i ws) = omega (arith, sum_by-cons (λ (x : ℕ). x) w (take i ws)) in
    offsets_from-at (place + w) ws i inside ∙ e

-- the sum of a longer prefix
sum-front : (ws : List ℕ) (i j : ℕ) → i < j → j < length ws → sum (take i ws) + get_or ws i 0 ≤ sum (take j ws)
sum-front [] i j h k = absurd (omega arith)
sum-front (w ∷ ws) i zero h k = absurd (omega arith)
sum-front (w ∷ ws) zero (suc j) h k = omega (arith, sum_by-cons (λ (x : ℕ). x) w (take j ws))
sum-front (w ∷ ws) (suc i) (suc j) h k =
    let below : i < j = omega arith in
    let inside : j < length ws = omega arith in
    let rest = sum-front ws i j below inside in
    omega (arith, rest, sum_by-cons (λ (x : ℕ). x) w (take i ws), sum_by-cons (λ (x : ℕ). x) w (take j ws))

pub components_are_apart : ComponentsAreApart
components_are_apart words i j h k =
    let env = offsets_from-at 0 words i (omega arith) in
    let there = offsets_from-at 0 words j k in
    let front = sum-front words i j h k in
    let whole = sum_by_more_le (λ (x : ℕ). x) words j 0 k in
    (omega (arith, env, there, front), omega (arith, there, whole))
