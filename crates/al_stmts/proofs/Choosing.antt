-- The choices of the alternatives after a place.
use Rattle.std.proofs.Common.{◌≡◌, ◌<◌, ◌≤◌, ℕ, suc, zero, ◌+◌, List, [], ◌∷◌, length, drop, refl, arith, add-one, sym, ◌∙◌, ap}
use Rattle.std.specs.Prelude.{Option, Some, None, slice_get}
use Rattle.al_stmts.specs.declared.choice.Choice.{Choice}
use Rattle.al_stmts.specs.Steps.{next_choices, rest_of}

abbrev chosen_at : Option (List Choice) → List Choice
chosen_at None = []
chosen_at (Some c) = c

at_place : (xs : List (List Choice)) (n : ℕ) → next_choices (drop n xs) ≡ chosen_at (slice_get xs n)
at_place [] zero = refl
at_place [] (suc n) = refl
at_place (x ∷ xs) zero = refl
at_place (x ∷ xs) (suc n) = at_place xs n

pub next_some : (xs : List (List Choice)) (n : ℕ) (c : List Choice) → slice_get xs n ≡ Some c → next_choices (drop n xs) ≡ c
next_some xs n c e = at_place xs n ∙ ap chosen_at e

pub next_none : (xs : List (List Choice)) (n : ℕ) → slice_get xs n ≡ None → next_choices (drop n xs) ≡ []
next_none xs n e = at_place xs n ∙ ap chosen_at e

rest_is : (xs : List (List Choice)) (n : ℕ) → rest_of (drop n xs) ≡ drop (suc n) xs
rest_is [] zero = refl
rest_is [] (suc n) = refl
rest_is (x ∷ xs) zero = refl
rest_is (x ∷ xs) (suc n) = rest_is xs n

pub rest_within : (xs : List (List Choice)) (n : ℕ) → rest_of (drop n xs) ≡ drop (n + 1) xs
rest_within xs n = rw add-one (rest_is xs n)

none_after : (xs : List (List Choice)) (n : ℕ) → length xs ≤ n → drop n xs ≡ []
none_after [] zero h = refl
none_after [] (suc n) h = refl
none_after (x ∷ xs) zero h = grind arith
none_after (x ∷ xs) (suc n) h = none_after xs n (omega arith)

pub rest_past : (xs : List (List Choice)) (n : ℕ) → length xs ≤ n → rest_of (drop n xs) ≡ drop n xs
rest_past xs n h = ap rest_of (none_after xs n h) ∙ sym (none_after xs n h)
