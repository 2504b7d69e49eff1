-- Loops over lists, by what is left of them.
use Rattle.std.proofs.Common.{◌≡◌, ◌<◌, ◌≤◌, ℕ, suc, zero, ◌+◌, List, [], ◌∷◌, length, get_or, drop, refl, sym, ap, ◌∙◌, add-one, drop-cons, arith}
use Rattle.std.specs.Prelude.{fold}

-- one more step
pub step : {S X : Type 0} (f : S → X → S) (s made : S) (xs : List X) (i : ℕ) (x : X) → made ≡ f s x → x ≡ get_or xs i x → i < length xs → fold f made (drop (i + 1) xs) ≡ fold f s (drop i xs)
step {S} {X} f s made xs i x is at within =
    let cons : drop i xs ≡ get_or xs i x ∷ drop (suc i) xs = drop-cons xs i x within in
    let made_at : made ≡ f s (get_or xs i x) = is ∙ ap (f s) at in
    rw (add-one, cons) (ap (λ (z : S). fold f z (drop (suc i) xs)) made_at)

-- steps that change nothing
pub stops : {S X : Type 0} (f : S → X → S) (s : S) (xs : List X) → ((x : X) → f s x ≡ s) → fold f s xs ≡ s
stops f s [] h = refl
stops {S} f s (x ∷ xs) h = ap (λ (z : S). fold f z xs) (h x) ∙ stops f s xs h

none_left : {X : Type 0} (xs : List X) (i : ℕ) → length xs ≤ i → drop i xs ≡ []
none_left [] zero h = refl
none_left [] (suc i) h = refl
none_left (x ∷ xs) zero h = grind arith
none_left (x ∷ xs) (suc i) h = none_left xs i (omega arith)

-- nothing is left
pub ends : {S X : Type 0} (f : S → X → S) (s : S) (xs : List X) (i : ℕ) → length xs ≤ i → fold f s (drop i xs) ≡ s
ends f s xs i h = ap (fold f s) (none_left xs i h)
