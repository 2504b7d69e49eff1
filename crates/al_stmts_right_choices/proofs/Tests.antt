-- Tests of all elements of a list.
use Rattle.std.proofs.Common.{IfOk, Result, Ok, Err, rules, ◌≡◌, Bool, true, false, not, ◌&&◌, ◌||◌, List, [], ◌∷◌, refl}
use Rattle.std.specs.List.{list_all}
use Rattle.std.proofs.lemmas.Bool.{and_from, false≢true}

pub both_left : (x y : Bool) → (x && y) ≡ true → x ≡ true
both_left true y h = refl
both_left false y h = h

pub both_right : (x y : Bool) → (x && y) ≡ true → y ≡ true
both_right true y h = h
both_right false y h = absurd (false≢true h)

-- one of two holds: if the first doesn't, the second
pub or_else : (x y : Bool) → (not x || y) ≡ true → x ≡ true → y ≡ true
or_else true y h e = h
or_else false y h e = absurd (false≢true e)

pub or_if : (x y : Bool) → (x ≡ true → y ≡ true) → (not x || y) ≡ true
or_if true y h = h refl
or_if false y h = refl

module _ {X : Type 0} where
  pub all_weaker : (p q : X → Bool) → ((x : X) → p x ≡ true → q x ≡ true) → (xs : List X) → list_all p xs ≡ true → list_all q xs ≡ true
  all_weaker p q h [] e = refl
  all_weaker p q h (x ∷ xs) e = and_from (q x) (list_all q xs) (h x (both_left (p x) (list_all p xs) e)) (all_weaker p q h xs (both_right (p x) (list_all p xs) e))

  pub all_hold : (p : X → Bool) → ((x : X) → p x ≡ true) → (xs : List X) → list_all p xs ≡ true
  all_hold p h [] = refl
  all_hold p h (x ∷ xs) = and_from (p x) (list_all p xs) (h x) (all_hold p h xs)

pub if_ok : {A E : Type 0} (r : Result A E) (P Q : A → Type 0) → ((a : A) → P a → Q a) → IfOk r P → IfOk r Q
if_ok (Ok a) P Q f h = f a h
if_ok (Err e) P Q f h = search rules
