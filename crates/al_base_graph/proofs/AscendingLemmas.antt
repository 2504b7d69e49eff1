-- Ascending lists, and numbers taken off the end of one.
use Rattle.std.proofs.Common.{◌≡◌, ℕ, ◌+◌, ◌-◌, ◌<◌, ◌≤◌, List, [], ◌∷◌, ◌++◌, length, get_or, take, refl, sym, ap, ◌∙◌, inl, inr, arith}
use Rattle.std.specs.List.{Contains}
use Rattle.std.proofs.lemmas.Bool.{cases_lt}
use Rattle.std.proofs.lemmas.List.{get_or_append_left, get_or_push, get_or_default, take_all, take_more, length_push}
use Rattle.std.proofs.lemmas.List.Elements.{Contains-get_or, Contains-append_left, Contains-push_cases}
use Rattle.al_base_graph.specs.Graphs.{IsAscending}

pub IsAscending-push : (xs : List ℕ) (x : ℕ) → IsAscending xs → ((a : ℕ) → Contains xs a → a < x) → IsAscending (xs ++ x ∷ [])
IsAscending-push xs x up below j k l m =
    let longer = length_push xs x in
    let first : get_or (xs ++ x ∷ []) j 0 ≡ get_or xs j 0 = get_or_append_left xs (x ∷ []) 0 j (omega arith) in
    elim (cases_lt k (length xs)) [
      | inl before ↦
          let second : get_or (xs ++ x ∷ []) k 0 ≡ get_or xs k 0 = get_or_append_left xs (x ∷ []) 0 k before in
          let rise = up j k l before in
          omega arith
      | inr after ↦
          let second : get_or (xs ++ x ∷ []) k 0 ≡ x = get_or_push xs x 0 k (omega arith) in
          let rise = below (get_or xs j 0) (Contains-get_or xs j 0 (omega arith)) in
          omega arith
    ]

pub IsAscending-front : (xs : List ℕ) (x : ℕ) → IsAscending (xs ++ x ∷ []) → IsAscending xs
IsAscending-front xs x up j k l m =
    let longer = length_push xs x in
    let first : get_or (xs ++ x ∷ []) j 0 ≡ get_or xs j 0 = get_or_append_left xs (x ∷ []) 0 j (omega arith) in
    let second : get_or (xs ++ x ∷ []) k 0 ≡ get_or xs k 0 = get_or_append_left xs (x ∷ []) 0 k m in
    let rise = up j k l (omega arith) in
    omega arith

pub below_last : (xs : List ℕ) (x a : ℕ) → IsAscending (xs ++ x ∷ []) → Contains xs a → a < x
below_last xs x a up h =
    let longer = length_push xs x in
    let l : h.0 < length xs = h.1 in
    let read : get_or xs h.0 a ≡ a = h.2 in
    let there : get_or xs h.0 0 ≡ a = get_or_default xs h.0 0 a l ∙ read in
    let first : get_or (xs ++ x ∷ []) h.0 0 ≡ get_or xs h.0 0 = get_or_append_left xs (x ∷ []) 0 h.0 l in
    let second : get_or (xs ++ x ∷ []) (length xs) 0 ≡ x = get_or_push xs x 0 (length xs) refl in
    let rise = up h.0 (length xs) l (omega arith) in
    omega arith

pub upto_last : (xs : List ℕ) (x a : ℕ) → IsAscending (xs ++ x ∷ []) → Contains (xs ++ x ∷ []) a → a ≤ x
upto_last xs x a up h =
    elim (Contains-push_cases xs x a h) [
      | inl old ↦ let l = below_last xs x a up old in omega arith
      | inr e ↦ omega arith
    ]

-- the last of an ascending list is its greatest
pub upto_end : (xs : List ℕ) (a : ℕ) → IsAscending xs → Contains xs a → a ≤ get_or xs (length xs - 1) 0
upto_end xs a up h =
    let l : h.0 < length xs = h.1 in
    let there : get_or xs h.0 0 ≡ a = get_or_default xs h.0 0 a l ∙ h.2 in
    elim (cases_lt h.0 (length xs - 1)) [
      | inl before ↦ let rise = up h.0 (length xs - 1) before (omega arith) in omega arith
      | inr after ↦ let e : h.0 ≡ length xs - 1 = omega arith in let same : get_or xs h.0 0 ≡ get_or xs (length xs - 1) 0 = ap (λ k. get_or xs k 0) e in omega arith
    ]

pub front_and_last : (xs : List ℕ) (a : ℕ) → 0 < length xs → get_or xs (length xs - 1) 0 ≡ a → xs ≡ take (length xs - 1) xs ++ a ∷ []
front_and_last xs a some e =
    let n : length xs - 1 + 1 ≡ length xs = omega arith in
    sym (take_all (length xs) xs (omega arith))
    ∙ ap (λ k. take k xs) (sym n)
    ∙ take_more xs (length xs - 1) 0 (omega arith)
    ∙ ap (λ x. take (length xs - 1) xs ++ x ∷ []) e

-- some numbers are taken off the end of an ascending list, which are above a bound
pub record IsCutting (old now : List ℕ) (most : ℕ) : Type 0 where
  pub ascends : IsAscending now
  pub only : (a : ℕ) → Contains now a → Contains old a
  pub all : (a : ℕ) → Contains old a → a ≤ most → Contains now a

pub IsCutting-more : (old xs : List ℕ) (x most : ℕ) → most < x → IsCutting old (xs ++ x ∷ []) most → IsCutting old xs most
IsCutting-more old xs x most above cutting = record {
  ascends = IsAscending-front xs x cutting.ascends;
  only = λ a h. cutting.only a (Contains-append_left xs (x ∷ []) a h);
  all = λ a h l. elim (Contains-push_cases xs x a (cutting.all a h l)) [ inl front ↦ front | inr e ↦ absurd (omega arith) ];
}
