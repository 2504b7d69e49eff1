-- What lists contain, and one value written at some places of a list.
use Rattle.std.proofs.Common.{◌≡◌, ◌≢◌, ◌⊎◌, ℕ, zero, suc, ◌<◌, Bool, false, List, [], ◌∷◌, length, get_or, set, refl, sym, ap, ◌∙◌, subst, inl, inr, arith, IsTrue}
use Rattle.std.specs.List.{Contains, fold}
use Rattle.std.proofs.lemmas.Bool.{cases_eq, cases_lt, false≢true}
use Rattle.std.proofs.lemmas.List.{get_or_past, length-set, get_or-set_same, get_or-set_other}

pub Contains-same : (xs ys : List ℕ) (a : ℕ) → xs ≡ ys → Contains xs a → Contains ys a
Contains-same xs ys a e h = let P : List ℕ → Type 0 = λ zs. Contains zs a in subst P e h

pub Contains-none : (a : ℕ) → Contains [] a → ⊥
Contains-none a h = let l : h.0 < 0 = h.1 in absurd (omega arith)

-- a set flag is one of the list
pub set_within : (flags : List Bool) (a : ℕ) → IsTrue (get_or flags a false) → a < length flags
set_within flags a t =
    elim (cases_lt a (length flags)) [
      | inl below ↦ below
      | inr past ↦ absurd (false≢true (sym (get_or_past flags a false past) ∙ t))
    ]

pub some_from_contains : (xs : List ℕ) (a : ℕ) → Contains xs a → 0 < length xs
some_from_contains xs a h = let l : h.0 < length xs = h.1 in omega arith

pub not_cons : (x : ℕ) (xs : List ℕ) (a : ℕ) → x ≢ a → (Contains xs a → ⊥) → Contains (x ∷ xs) a → ⊥
not_cons x xs a n absent (zero, l, e) = n e
not_cons x xs a n absent (suc k, l, e) = absent (k, omega arith, e)

pub contains_or_not : (xs : List ℕ) (a : ℕ) → Contains xs a ⊎ (Contains xs a → ⊥)
contains_or_not [] a = inr (Contains-none a)
contains_or_not (x ∷ xs) a =
    elim (cases_eq x a) [
      | inl e ↦ inl (0, omega arith, e)
      | inr n ↦ elim (contains_or_not xs a) [
        | inl h ↦ inl (suc h.0, omega arith, h.2)
        | inr absent ↦ inr (not_cons x xs a n absent)
      ]
    ]

pub within_from_some : (xs : List ℕ) (i : ℕ) → 0 < get_or xs i 0 → i < length xs
within_from_some xs i some =
    elim (cases_lt i (length xs)) [
      | inl below ↦ below
      | inr past ↦ let none = get_or_past xs i 0 past in absurd (omega arith)
    ]

-- one value is written at each of some places
module _ {X : Type 0} (x d : X) where
  pub length-written : (xs : List X) (nodes : List ℕ) → length (fold (λ ys node. set ys node x) xs nodes) ≡ length xs
  length-written xs [] = refl
  length-written xs (n ∷ ns) = length-written (set xs n x) ns ∙ length-set xs n x

  pub written_stays : (xs : List X) (nodes : List ℕ) (a : ℕ) → a < length xs → get_or xs a d ≡ x → get_or (fold (λ ys node. set ys node x) xs nodes) a d ≡ x
  written_stays xs [] a l e = e
  written_stays xs (n ∷ ns) a l e =
      let m : a < length (set xs n x) = let same = length-set xs n x in omega arith in
      elim (cases_eq a n) [
        | inl same ↦ written_stays (set xs n x) ns a m (ap (λ k. get_or (set xs n x) k d) same ∙ get_or-set_same xs n x d (omega arith))
        | inr other ↦ written_stays (set xs n x) ns a m (get_or-set_other xs n a x d other ∙ e)
      ]

  pub written : (xs : List X) (nodes : List ℕ) (a : ℕ) → a < length xs → Contains nodes a → get_or (fold (λ ys node. set ys node x) xs nodes) a d ≡ x
  written xs [] a l h = absurd (Contains-none a h)
  written xs (n ∷ ns) a l h =
      let m : a < length (set xs n x) = let same = length-set xs n x in omega arith in
      elim (cases_eq n a) [
        | inl same ↦ written_stays (set xs n x) ns a m (ap (λ k. get_or (set xs n x) k d) (sym same) ∙ get_or-set_same xs n x d (omega arith))
        | inr other ↦ elim (contains_or_not ns a) [
          | inl rest ↦ written (set xs n x) ns a m rest
          | inr absent ↦ absurd (not_cons n ns a other absent h)
        ]
      ]

  pub not_written : (xs : List X) (nodes : List ℕ) (a : ℕ) → (Contains nodes a → ⊥) → get_or (fold (λ ys node. set ys node x) xs nodes) a d ≡ get_or xs a d
  not_written xs [] a absent = refl
  not_written xs (n ∷ ns) a absent =
      not_written (set xs n x) ns a (λ h. absent (suc h.0, omega arith, h.2))
      ∙ get_or-set_other xs n a x d (λ e. absent (0, omega arith, sym e))
