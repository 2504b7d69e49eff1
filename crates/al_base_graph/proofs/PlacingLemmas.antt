-- Placing the nodes one by one.
use Rattle.std.proofs.Common.{◌≡◌, ◌≢◌, ◌↔◌, ◌⊎◌, ℕ, zero, suc, ◌+◌, ◌<◌, ◌≤◌, Bool, true, false, not, List, [], ◌∷◌, ◌++◌, length, get_or, take, eqb, ltb, refl, sym, ap, ◌∙◌, subst, inl, inr, arith, IsTrue}
use Rattle.std.specs.List.{Contains}
use Rattle.std.proofs.lemmas.Bool.{cases_eq, cases_lt, cases_Bool, ltb-true, lt-ltb, not-true, not-false, false≢true}
use Rattle.std.proofs.lemmas.List.{take-append-le, take_all, get_or_append_left, get_or_push, get_or_default, length_push, get_or_past, take_more, take_more_same, get_or-take, length-take-le}
use Rattle.std.proofs.lemmas.List.Elements.{Contains-append_left, Contains-push, Contains-push_cases, Contains-get_or}
use Rattle.al_base_graph.proofs.Members.{nowhere, first, later, first_or_later}
use Rattle.al_base_graph.proofs.ListLemmas.{within_from_some, contains_or_not}
use Rattle.al_base_graph.proofs.StepLemmas.{Step-from}
use Rattle.al_base_graph.specs.Graphs.{successors_of, Step, IsClosed}
use Rattle.al_base_graph.specs.Orders.{IsLeast, IsAvailable, TakesLeast, IsOrder, IsStuck, EachHasOneBefore}
use Rattle.al_base_graph.specs.Placings.{times, is_among, missing_of, AreLater, IsPlacing, TellStuck}
use Rattle.al_base_graph.proofs.CountLemmas.{one_if, among_yes, among_no, among_from, missing_push, count_none, count_zero, count_some, times_from}

-- a part of a list from its begin
pub from_take : (i : ℕ) (xs : List ℕ) (a : ℕ) → Contains (take i xs) a → (k : ℕ) × (k < i) × (k < length xs) × (get_or xs k 0 ≡ a)
from_take zero xs a h = absurd (nowhere a h)
from_take (suc i) [] a h = absurd (nowhere a h)
from_take (suc i) (x ∷ xs) a h =
    elim (first_or_later x (take i xs) a h) [
      | inl same ↦ (0, omega arith, omega arith, same)
      | inr rest ↦ let r = from_take i xs a rest in let l : r.0 < i = r.1 in let m : r.0 < length xs = r.2 in (suc r.0, omega arith, omega arith, r.3)
    ]

within_take : (i : ℕ) (xs : List ℕ) (k : ℕ) → k < i → k < length xs → k < length (take i xs)
within_take zero xs k l m = absurd (omega arith)
within_take (suc i) [] k l m = m
within_take (suc i) (x ∷ xs) zero l m = omega arith
within_take (suc i) (x ∷ xs) (suc k) l m = let r = within_take i xs k (omega arith) (omega arith) in omega arith

pub into_take : (i : ℕ) (xs : List ℕ) (k : ℕ) → k < i → k < length xs → Contains (take i xs) (get_or xs k 0)
into_take i xs k l m =
    let P : ℕ → Type 0 = λ a. Contains (take i xs) a in
    subst P (get_or-take i xs k 0 l) (Contains-get_or (take i xs) k 0 (within_take i xs k l m))

pub place_in : (xs : List ℕ) (a : ℕ) → Contains xs a → (k : ℕ) × (k < length xs) × (get_or xs k 0 ≡ a)
place_in xs a h = (h.0, h.1, get_or_default xs h.0 0 a h.1 ∙ h.2)

-- a node that stands there has its predecessors before it
pub placed_before : (g : List (List ℕ)) (order : List ℕ) → TakesLeast g order → (k : ℕ) → k < length order → (b : ℕ) → Step g (get_or order k 0) b → (j : ℕ) × (j < k) × (get_or order j 0 ≡ b)
placed_before g order takes k l b s =
    let r = from_take k order b ((takes k l).0.2 b s) in (r.0, r.1, r.3)

pub placed_closed : (g : List (List ℕ)) (order : List ℕ) → TakesLeast g order → (a b : ℕ) → Contains order a → Step g a b → Contains order b
placed_closed g order takes a b h s =
    let p = place_in order a h in
    let P : ℕ → Type 0 = λ x. Step g x b in
    let r = placed_before g order takes p.0 p.1 b (subst P (sym p.2) s) in
    let l : p.0 < length order = p.1 in
    let m : r.0 < p.0 = r.1 in
    let Q : ℕ → Type 0 = λ x. Contains order x in
    subst Q r.2 (Contains-get_or order r.0 0 (omega arith))

pub missing_none : (g : List (List ℕ)) (order : List ℕ) (a : ℕ) → ((b : ℕ) → Step g a b → Contains order b) → missing_of g order a ≡ 0
missing_none g order a all = count_none (λ b. not (is_among b order)) (successors_of g a) (λ b s. ap not (among_yes b order (all b s)))

pub missing_zero : (g : List (List ℕ)) (order : List ℕ) (a : ℕ) → missing_of g order a ≡ 0 → (b : ℕ) → Step g a b → Contains order b
missing_zero g order a none b s = among_from b order (not-false (is_among b order) (count_zero (λ c. not (is_among c order)) (successors_of g a) none b s))

pub missing_some : (g : List (List ℕ)) (order : List ℕ) (a : ℕ) → 0 < missing_of g order a → (b : ℕ) × Step g a b × (Contains order b → ⊥)
missing_some g order a some =
    let r = count_some (λ b. not (is_among b order)) (successors_of g a) some in
    (r.0, r.1, λ h. false≢true (sym (not-true (is_among r.0 order) r.2) ∙ among_yes r.0 order h))

-- no node that stands in the order is stuck: none up to a place
not_stuck_upto : (g : List (List ℕ)) (order : List ℕ) → TakesLeast g order → (held : ℕ → Bool) → EachHasOneBefore g held → (n k : ℕ) → k < n → k < length order → IsTrue (held (get_or order k 0)) → ⊥
not_stuck_upto g order takes held each zero k l m t = absurd (omega arith)
not_stuck_upto g order takes held each (suc n) k l m t =
    let e = each (get_or order k 0) t in
    let r = placed_before g order takes k m e.0 e.1 in
    let j : r.0 < k = r.1 in
    let P : ℕ → Type 0 = λ x. IsTrue (held x) in
    not_stuck_upto g order takes held each n r.0 (omega arith) (omega arith) (subst P (sym r.2) e.2)

pub placed_not_stuck : (g : List (List ℕ)) (order : List ℕ) → TakesLeast g order → (a : ℕ) → Contains order a → IsStuck g a → ⊥
placed_not_stuck g order takes a h stuck =
    let p = place_in order a h in
    let P : ℕ → Type 0 = λ x. IsTrue (stuck.0 x) in
    not_stuck_upto g order takes stuck.0 stuck.1 (length order) p.0 p.1 p.1 (subst P (sym p.2) stuck.2)

pub stuck_within : (g : List (List ℕ)) (a : ℕ) → IsStuck g a → a < length g
stuck_within g a stuck = let e = stuck.1 a stuck.2 in Step-from g a e.0 e.1

pub order_not_stuck : (g : List (List ℕ)) (order : List ℕ) → IsOrder g order → (a : ℕ) → IsStuck g a → ⊥
order_not_stuck g order is a stuck = placed_not_stuck g order is.takes_least a (is.all a (stuck_within g a stuck)) stuck

-- one more is taken
pub TakesLeast-push : (g : List (List ℕ)) (order : List ℕ) (b : ℕ) → TakesLeast g order → IsLeast (IsAvailable g order) b → TakesLeast g (order ++ b ∷ [])
TakesLeast-push g order b takes least i l =
    let longer = length_push order b in
    elim (cases_lt i (length order)) [
      | inl before ↦
          let P : List ℕ → Type 0 = λ xs. IsLeast (IsAvailable g xs) (get_or (order ++ b ∷ []) i 0) in
          let Q : ℕ → Type 0 = λ x. IsLeast (IsAvailable g (take i order)) x in
          subst P (sym (take-append-le i order (b ∷ []) (omega arith))) (subst Q (sym (get_or_append_left order (b ∷ []) 0 i before)) (takes i before))
      | inr after ↦
          let e : length order ≡ i = omega arith in
          let P : List ℕ → Type 0 = λ xs. IsLeast (IsAvailable g xs) (get_or (order ++ b ∷ []) i 0) in
          let Q : ℕ → Type 0 = λ x. IsLeast (IsAvailable g order) x in
          let all : take i (order ++ b ∷ []) ≡ order = take-append-le i order (b ∷ []) (omega arith) ∙ take_all i order (omega arith) in
          subst P (sym all) (subst Q (sym (get_or_push order b 0 i e)) least)
    ]

-- the first of the ready nodes is placed
module _ (g later_of : List (List ℕ)) (order missing rest : List ℕ) (b : ℕ) (are : AreLater g later_of) (placing : IsPlacing g order missing (b ∷ rest)) (above : (a : ℕ) → Contains rest a → b < a) where
  pub b_ready : (b < length g) × (Contains order b → ⊥) × (get_or missing b 0 ≡ 0)
  b_ready = (placing.ready_is b).0 (first b rest)

  pub b_absent : Contains order b → ⊥
  b_absent = b_ready.1

  abbrev after : List ℕ
  after = order ++ b ∷ []

  abbrev times_later : ℕ → ℕ
  times_later a = times a (successors_of later_of b)

  parts : (a : ℕ) → missing_of g after a + times_later a ≡ get_or missing a 0
  parts a = let e = missing_push g order b b_absent a in let f = are.times_same a b in let h = placing.missing_is a in omega arith

  pub times_fit : (a : ℕ) → times a (successors_of later_of b) ≤ get_or missing a 0
  times_fit a = let p = parts a in omega arith

  pub b_least : IsLeast (IsAvailable g order) b
  b_least = (
    (b_ready.0, b_absent, missing_zero g order b (sym (placing.missing_is b) ∙ b_ready.2)),
    λ c av.
        let none = placing.missing_is c ∙ missing_none g order c av.2 in
        elim (first_or_later b rest c ((placing.ready_is c).1 (av.0, av.1, none))) [ inl same ↦ omega arith | inr more ↦ let l = above c more in omega arith ],
  )

  module _ (missing2 ready2 : List ℕ) (count : length missing2 ≡ length missing) (down : (a : ℕ) → get_or missing2 a 0 + times a (successors_of later_of b) ≡ get_or missing a 0) (add : (a : ℕ) → Contains ready2 a ↔ (Contains rest a ⊎ ((0 < times a (successors_of later_of b)) × (get_or missing2 a 0 ≡ 0)))) where
    ready_then : (a : ℕ) → Contains ready2 a → (a < length g) × (Contains after a → ⊥) × (get_or missing2 a 0 ≡ 0)
    ready_then a h =
        let d = down a in
        elim ((add a).0 h) [
          | inl old ↦
              let r = (placing.ready_is a).0 (later b rest a old) in
              let l = above a old in
              let none : get_or missing a 0 ≡ 0 = r.2 in
              (r.0, λ m. elim (Contains-push_cases order b a m) [ inl there ↦ r.1 there | inr same ↦ absurd (omega arith) ], omega arith)
          | inr new ↦
              let some : 0 < times a (successors_of later_of b) = new.0 in
              let was : 0 < get_or missing a 0 = omega arith in
              let l = within_from_some missing a was in
              let n = placing.count in
              let e = placing.missing_is a in
              let no : missing_of g order a ≡ 0 → ⊥ = λ z. absurd (omega arith) in (
                omega arith,
                λ m. elim (Contains-push_cases order b a m) [
                  | inl there ↦ no (missing_none g order a (λ c s. placed_closed g order placing.takes_least a c there s))
                  | inr same ↦ let P : ℕ → Type 0 = λ x. get_or missing x 0 ≡ 0 in let z = subst P same b_ready.2 in absurd (omega arith)
                ],
                new.1,
              )
        ]

    ready_from : (a : ℕ) → (a < length g) × (Contains after a → ⊥) × (get_or missing2 a 0 ≡ 0) → Contains ready2 a
    ready_from a h =
        let d = down a in
        elim (cases_lt 0 (times a (successors_of later_of b))) [
          | inl some ↦ (add a).1 (inr (some, h.2))
          | inr none ↦
              let z : get_or missing2 a 0 ≡ 0 = h.2 in
              let old : Contains (b ∷ rest) a = (placing.ready_is a).1 (h.0, λ m. h.1 (Contains-append_left order (b ∷ []) a m), omega arith) in
              elim (first_or_later b rest a old) [
                | inl same ↦ let P : ℕ → Type 0 = λ x. Contains after x in absurd (h.1 (subst P same (Contains-push order b)))
                | inr more ↦ (add a).1 (inl more)
              ]
        ]

    pub IsPlacing-more : IsPlacing g (order ++ b ∷ []) missing2 ready2
    IsPlacing-more = record {
      takes_least = TakesLeast-push g order b placing.takes_least b_least;
      count = count ∙ placing.count;
      missing_is = λ a. let p = parts a in let d = down a in omega arith;
      ready_is = λ a. (ready_then a, ready_from a);
    }

-- no node is ready
module _ (g : List (List ℕ)) (order missing : List ℕ) (closed : IsClosed g) (placing : IsPlacing g order missing []) where
  pub placed_or_missing : (a : ℕ) → a < length g → get_or missing a 0 ≡ 0 → Contains order a
  placed_or_missing a l none =
      elim (contains_or_not order a) [
        | inl there ↦ there
        | inr absent ↦ absurd (nowhere a ((placing.ready_is a).1 (l, absent, none)))
      ]

  abbrev held : ℕ → Bool
  held a = ltb 0 (get_or missing a 0)

  held_before : EachHasOneBefore g held
  held_before a t =
      let some = ltb-true 0 (get_or missing a 0) t in
      let e = placing.missing_is a in
      let r = missing_some g order a (omega arith) in
      let l = closed a r.0 r.1 in
      elim (cases_lt 0 (get_or missing r.0 0)) [
        | inl more ↦ (r.0, r.1, lt-ltb 0 (get_or missing r.0 0) more)
        | inr none ↦ absurd (r.2 (placed_or_missing r.0 l (omega arith)))
      ]

  pub tell_stuck : TellStuck g missing
  tell_stuck a = (
    λ stuck. elim (cases_lt 0 (get_or missing a 0)) [
      | inl more ↦ more
      | inr none ↦ absurd (placed_not_stuck g order placing.takes_least a (placed_or_missing a (stuck_within g a stuck) (omega arith)) stuck)
    ],
    λ some. (held, held_before, lt-ltb 0 (get_or missing a 0) some),
  )

  pub all_placed : ((a : ℕ) → get_or missing a 0 ≡ 0) → IsOrder g order
  all_placed none = record { all = λ a l. placed_or_missing a l (none a); takes_least = placing.takes_least }

-- how many numbers below n aren't in the list
abbrev pub unplaced : List ℕ → ℕ → ℕ
unplaced order zero = 0
unplaced order (suc n) = one_if (not (is_among n order)) + unplaced order n

fewer_or_same : (order : List ℕ) (b n : ℕ) → one_if (not (is_among n (order ++ b ∷ []))) ≤ one_if (not (is_among n order))
fewer_or_same order b n =
    elim (cases_Bool (is_among n order)) [
      | inl t ↦
          let e : one_if (not (is_among n (order ++ b ∷ []))) ≡ 0 = ap (λ t. one_if (not t)) (among_yes n (order ++ b ∷ []) (Contains-append_left order (b ∷ []) n (among_from n order t))) in
          omega arith
      | inr f ↦
          let e : one_if (not (is_among n order)) ≡ 1 = ap (λ t. one_if (not t)) f in
          elim (cases_Bool (is_among n (order ++ b ∷ []))) [
            | inl t ↦ let d : one_if (not (is_among n (order ++ b ∷ []))) ≡ 0 = ap (λ t. one_if (not t)) t in omega arith
            | inr h ↦ let d : one_if (not (is_among n (order ++ b ∷ []))) ≡ 1 = ap (λ t. one_if (not t)) h in omega arith
          ]
    ]

unplaced_kept : (order : List ℕ) (b n : ℕ) → unplaced (order ++ b ∷ []) n ≤ unplaced order n
unplaced_kept order b zero = omega arith
unplaced_kept order b (suc n) = let r = unplaced_kept order b n in let f = fewer_or_same order b n in omega arith

pub unplaced_less : (order : List ℕ) (b n : ℕ) → b < n → (Contains order b → ⊥) → unplaced (order ++ b ∷ []) n < unplaced order n
unplaced_less order b zero l absent = absurd (omega arith)
unplaced_less order b (suc n) l absent =
    elim (cases_eq b n) [
      | inl e ↦
          let P : ℕ → Type 0 = λ x. Contains (order ++ b ∷ []) x in
          let Q : ℕ → Type 0 = λ x. Contains order x in
          let r = unplaced_kept order b n in
          let now : one_if (not (is_among n (order ++ b ∷ []))) ≡ 0 = ap (λ t. one_if (not t)) (among_yes n (order ++ b ∷ []) (subst P e (Contains-push order b))) in
          let was : one_if (not (is_among n order)) ≡ 1 = ap (λ t. one_if (not t)) (among_no n order (λ h. absent (subst Q (sym e) h))) in
          omega arith
      | inr m ↦ let r = unplaced_less order b n (omega arith) absent in let f = fewer_or_same order b n in omega arith
    ]
