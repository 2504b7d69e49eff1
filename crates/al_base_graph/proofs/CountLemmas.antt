-- How often numbers stand in lists, and keys put in their place.
use Rattle.std.proofs.Common.{◌≡◌, ◌≢◌, ◌↔◌, ◌⊎◌, ℕ, zero, suc, ◌+◌, ◌<◌, ◌≤◌, Bool, true, false, not, cond, List, [], ◌∷◌, ◌++◌, length, get_or, eqb, refl, sym, ap, ◌∙◌, subst, inl, inr, arith, IsTrue}
use Rattle.std.specs.List.{Contains, list_any, sum_by, count_by}
use Rattle.std.specs.declared.cmp.Ordering.{Ordering}
use Rattle.std.specs.Ordering.{nat_cmp, match_ordering}
use Rattle.std.specs.BTreeSet.{insert_key}
use Rattle.std.proofs.lemmas.Bool.{cases_eq, cases_lt, cases_Bool, eqb-true, eqb-false, eq-eqb, ne_eqb, false_from_ne_true, false≢true}
use Rattle.std.proofs.lemmas.Cmp.{ranked, by_ranked}
use Rattle.std.proofs.lemmas.List.Sums.{sum_by-cons}
use Rattle.std.proofs.lemmas.List.Elements.{Contains-append_left, Contains-push, Contains-push_cases}
use Rattle.al_base_graph.proofs.Members.{nowhere, first, later, first_or_later, any_from, any_into}
use Rattle.al_base_graph.specs.Graphs.{successors_of, Step}
use Rattle.al_base_graph.specs.Placings.{times, is_among, missing_of}

-- a sum in two parts
pub sum_by-plus : {X : Type 0} (f g h : X → ℕ) → ((x : X) → f x + g x ≡ h x) → (xs : List X) → sum_by f xs + sum_by g xs ≡ sum_by h xs
sum_by-plus f g h parts [] = refl
sum_by-plus f g h parts (x ∷ xs) =
    let p = parts x in
    let e = sum_by-plus f g h parts xs in
    let a = sum_by-cons f x xs in
    let b = sum_by-cons g x xs in
    let c = sum_by-cons h x xs in
    omega arith

pub among_yes : (a : ℕ) (xs : List ℕ) → Contains xs a → is_among a xs ≡ true
among_yes a xs h = any_into (λ x. eqb x a) xs a h (eq-eqb a a refl)

pub among_from : (a : ℕ) (xs : List ℕ) → is_among a xs ≡ true → Contains xs a
among_from a xs t = let r = any_from (λ x. eqb x a) xs t in let P : ℕ → Type 0 = λ x. Contains xs x in subst P (eqb-true r.0 a r.2) r.1

pub among_no : (a : ℕ) (xs : List ℕ) → (Contains xs a → ⊥) → is_among a xs ≡ false
among_no a xs n = false_from_ne_true (is_among a xs) (λ t. n (among_from a xs t))

abbrev pub one_if : Bool → ℕ
one_if b = cond b 1 0

pub one_if-yes : (b : Bool) → b ≡ true → one_if b ≡ 1
one_if-yes b e = ap one_if e

pub one_if-no : (b : Bool) → b ≡ false → one_if b ≡ 0
one_if-no b e = ap one_if e

-- what is missing after one more is placed
part_of : (order : List ℕ) (b : ℕ) → (Contains order b → ⊥) → (x : ℕ) → one_if (not (is_among x (order ++ b ∷ []))) + one_if (eqb x b) ≡ one_if (not (is_among x order))
part_of order b absent x =
    elim (cases_eq x b) [
      | inl e ↦
          let P : ℕ → Type 0 = λ y. Contains (order ++ b ∷ []) y in
          let Q : ℕ → Type 0 = λ y. Contains order y in
          let one : one_if (not (is_among x (order ++ b ∷ []))) ≡ 0 = ap (λ t. one_if (not t)) (among_yes x (order ++ b ∷ []) (subst P (sym e) (Contains-push order b))) in
          let two : one_if (eqb x b) ≡ 1 = ap one_if (eq-eqb x b e) in
          let three : one_if (not (is_among x order)) ≡ 1 = ap (λ t. one_if (not t)) (among_no x order (λ h. absent (subst Q e h))) in
          omega arith
      | inr n ↦
          let two : one_if (eqb x b) ≡ 0 = ap one_if (ne_eqb x b n) in
          elim (cases_Bool (is_among x order)) [
            | inl t ↦
                let one : one_if (not (is_among x (order ++ b ∷ []))) ≡ 0 = ap (λ t. one_if (not t)) (among_yes x (order ++ b ∷ []) (Contains-append_left order (b ∷ []) x (among_from x order t))) in
                let three : one_if (not (is_among x order)) ≡ 0 = ap (λ t. one_if (not t)) t in
                omega arith
            | inr f ↦
                let out : Contains (order ++ b ∷ []) x → ⊥ = λ h. elim (Contains-push_cases order b x h) [ inl old ↦ false≢true (sym f ∙ among_yes x order old) | inr e ↦ n (sym e) ] in
                let one : one_if (not (is_among x (order ++ b ∷ []))) ≡ 1 = ap (λ t. one_if (not t)) (among_no x (order ++ b ∷ []) out) in
                let three : one_if (not (is_among x order)) ≡ 1 = ap (λ t. one_if (not t)) f in
                omega arith
          ]
    ]

pub missing_push : (g : List (List ℕ)) (order : List ℕ) (b : ℕ) → (Contains order b → ⊥) → (a : ℕ) → missing_of g (order ++ b ∷ []) a + times b (successors_of g a) ≡ missing_of g order a
missing_push g order b absent a =
    sum_by-plus (λ x. one_if (not (is_among x (order ++ b ∷ [])))) (λ x. one_if (eqb x b)) (λ x. one_if (not (is_among x order))) (part_of order b absent) (successors_of g a)

module _ {X : Type 0} (p : X → Bool) where
  pub count_none : (xs : List X) → ((x : X) → Contains xs x → p x ≡ false) → count_by p xs ≡ 0
  count_none [] none = refl
  count_none (x ∷ xs) none =
      let e = sum_by-cons (λ y. one_if (p y)) x xs in
      let f = one_if-no (p x) (none x (first x xs)) in
      let rest = count_none xs (λ y h. none y (later x xs y h)) in
      omega arith

  pub count_zero : (xs : List X) → count_by p xs ≡ 0 → (x : X) → Contains xs x → p x ≡ false
  count_zero [] none x h = absurd (nowhere x h)
  count_zero (y ∷ ys) none x h =
      let e = sum_by-cons (λ z. one_if (p z)) y ys in
      elim (first_or_later y ys x h) [
        | inl same ↦ false_from_ne_true (p x) (λ t. let f = one_if-yes (p y) (ap p same ∙ t) in absurd (omega arith))
        | inr rest ↦ count_zero ys (omega arith) x rest
      ]

  pub count_some : (xs : List X) → 0 < count_by p xs → (x : X) × Contains xs x × (p x ≡ true)
  count_some [] some = absurd (omega arith)
  count_some (y ∷ ys) some =
      elim (cases_Bool (p y)) [
        | inl t ↦ (y, first y ys, t)
        | inr f ↦
            let e = sum_by-cons (λ z. one_if (p z)) y ys in
            let none = one_if-no (p y) f in
            let r = count_some ys (omega arith) in (r.0, later y ys r.0 r.1, r.2)
      ]

pub times_from : (a : ℕ) (xs : List ℕ) → 0 < times a xs → Contains xs a
times_from a xs some = let r = count_some (λ x. eqb x a) xs some in let P : ℕ → Type 0 = λ x. Contains xs x in subst P (eqb-true r.0 a r.2) r.1

-- a key put into its place
insert_at : (k x : ℕ) (xs : List ℕ) → ((a : ℕ) → Contains (insert_key nat_cmp xs k) a ↔ (Contains xs a ⊎ (k ≡ a))) → (a : ℕ) → Contains (insert_key nat_cmp (x ∷ xs) k) a ↔ (Contains (x ∷ xs) a ⊎ (k ≡ a))
insert_at k x xs rest a =
    let P : Ordering → Type 0 = λ o. Contains (match_ordering o (k ∷ x ∷ xs) (x ∷ xs) (x ∷ insert_key nat_cmp xs k)) a ↔ (Contains (x ∷ xs) a ⊎ (k ≡ a)) in
    by_ranked (k < x) (k ≡ x) (x < k) (nat_cmp k x) (ranked k x (nat_cmp k x) refl)
    (λ e l. subst P (sym e) (
      λ h. elim (first_or_later k (x ∷ xs) a h) [ inl same ↦ inr same | inr old ↦ inl old ],
      λ r. elim r [
        | inl old ↦ later k (x ∷ xs) a old
        | inr same ↦ let Q : ℕ → Type 0 = λ y. Contains (k ∷ x ∷ xs) y in subst Q same (first k (x ∷ xs))
      ],
    ))
    (λ e l. subst P (sym e) (
      λ h. inl h,
      λ r. elim r [
        | inl old ↦ old
        | inr same ↦ let Q : ℕ → Type 0 = λ y. Contains (x ∷ xs) y in subst Q (sym l ∙ same) (first x xs)
      ],
    ))
    (λ e l. subst P (sym e) (
      λ h. elim (first_or_later x (insert_key nat_cmp xs k) a h) [
        | inl same ↦ let Q : ℕ → Type 0 = λ y. Contains (x ∷ xs) y in inl (subst Q same (first x xs))
        | inr more ↦ elim ((rest a).0 more) [ inl old ↦ inl (later x xs a old) | inr same ↦ inr same ]
      ],
      λ r. elim r [
        | inl old ↦ elim (first_or_later x xs a old) [
          | inl same ↦ let Q : ℕ → Type 0 = λ y. Contains (x ∷ insert_key nat_cmp xs k) y in subst Q same (first x (insert_key nat_cmp xs k))
          | inr more ↦ later x (insert_key nat_cmp xs k) a ((rest a).1 (inl more))
        ]
        | inr same ↦ later x (insert_key nat_cmp xs k) a ((rest a).1 (inr same))
      ],
    ))

pub inserted : (xs : List ℕ) (k a : ℕ) → Contains (insert_key nat_cmp xs k) a ↔ (Contains xs a ⊎ (k ≡ a))
inserted [] k a = (
  λ h. elim (first_or_later k [] a h) [ inl same ↦ inr same | inr none ↦ inl none ],
  λ r. elim r [ inl none ↦ absurd (nowhere a none) | inr same ↦ let Q : ℕ → Type 0 = λ y. Contains (k ∷ []) y in subst Q same (first k []) ],
)
inserted (x ∷ xs) k a = insert_at k x xs (inserted xs k) a
