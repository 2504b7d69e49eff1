-- The steps of the loops that count.
use Rattle.std.proofs.Common.{◌≡◌, ◌≢◌, ◌↔◌, ◌⊎◌, ℕ, zero, suc, ◌+◌, ◌-◌, ◌<◌, ◌≤◌, Bool, true, false, not, cond, List, [], ◌∷◌, ◌++◌, length, get_or, set, take, eqb, ltb, refl, sym, ap, ◌∙◌, subst, inl, inr, arith}
use Rattle.std.specs.List.{All, Contains, count_by}
use Rattle.std.proofs.lemmas.Bool.{cases_eq, cases_lt, cases_order, eq-eqb, ne_eqb, lt-ltb, le-ltb, cond-true, cond-false}
use Rattle.std.proofs.lemmas.List.{get_or_past, get_or_append_left, get_or_push, get_or-set_same, get_or-set_other, length-set, length_push}
use Rattle.std.proofs.lemmas.List.Sums.{sum_by-cons, sum_by_more, sum_by_more_le}
use Rattle.std.proofs.lemmas.List.Elements.{All-contains}
use Rattle.al_base_graph.proofs.Members.{nowhere}
use Rattle.al_base_graph.proofs.StepLemmas.{Step-from}
use Rattle.al_base_graph.specs.Graphs.{successors_of, Step, IsClosed}
use Rattle.al_base_graph.specs.Placings.{times, is_among, missing_of, AreLater, IsPlacing}
use Rattle.al_base_graph.proofs.CountLemmas.{one_if}

-- the steps to one node more are turned round
pub later_more : (a n old new at_n at_a : ℕ) → (n ≡ a → at_n ≡ at_a) → new ≡ old + cond (eqb n a) at_n 0 → old ≡ cond (ltb a n) at_a 0 → new ≡ cond (ltb a (n + 1)) at_a 0
later_more a n old new at_n at_a same e f =
    elim (cases_lt a n) [
      | inl before ↦
          let one : cond (eqb n a) at_n 0 ≡ 0 = cond-false (eqb n a) at_n 0 (ne_eqb n a (λ z. absurd (omega arith))) in
          let two : cond (ltb a n) at_a 0 ≡ at_a = cond-true (ltb a n) at_a 0 (lt-ltb a n before) in
          let three : cond (ltb a (n + 1)) at_a 0 ≡ at_a = cond-true (ltb a (n + 1)) at_a 0 (lt-ltb a (n + 1) (omega arith)) in
          omega arith
      | inr past ↦
          let two : cond (ltb a n) at_a 0 ≡ 0 = cond-false (ltb a n) at_a 0 (le-ltb a n past) in
          elim (cases_eq n a) [
            | inl is ↦
                let one : cond (eqb n a) at_n 0 ≡ at_n = cond-true (eqb n a) at_n 0 (eq-eqb n a is) in
                let three : cond (ltb a (n + 1)) at_a 0 ≡ at_a = cond-true (ltb a (n + 1)) at_a 0 (lt-ltb a (n + 1) (omega arith)) in
                let four = same is in
                omega arith
            | inr other ↦
                let one : cond (eqb n a) at_n 0 ≡ 0 = cond-false (eqb n a) at_n 0 (ne_eqb n a other) in
                let three : cond (ltb a (n + 1)) at_a 0 ≡ 0 = cond-false (ltb a (n + 1)) at_a 0 (le-ltb a (n + 1) (omega arith)) in
                omega arith
          ]
    ]

pub later_all : (g h : List (List ℕ)) (n : ℕ) → length g ≤ n → length h ≡ length g → ((a b : ℕ) → times a (successors_of h b) ≡ cond (ltb a n) (times b (successors_of g a)) 0) → AreLater g h
later_all g h n whole count so_far = record {
  count = count;
  times_same = λ a b. elim (cases_lt a n) [
    | inl below ↦ so_far a b ∙ cond-true (ltb a n) (times b (successors_of g a)) 0 (lt-ltb a n below)
    | inr past ↦
        let none : times b (successors_of g a) ≡ 0 = ap (λ xs. times b xs) (get_or_past g a [] (omega arith)) in
        so_far a b ∙ cond-false (ltb a n) (times b (successors_of g a)) 0 (le-ltb a n past) ∙ sym none
  ];
}

pub times_fits : (nodes : List ℕ) (i : ℕ) → i < length nodes → times (get_or nodes i 0) (take i nodes) + 1 ≤ times (get_or nodes i 0) nodes
times_fits nodes i l =
    let r = sum_by_more_le (λ x. one_if (eqb x (get_or nodes i 0))) nodes i 0 l in
    let one : one_if (eqb (get_or nodes i 0) (get_or nodes i 0)) ≡ 1 = ap one_if (eq-eqb (get_or nodes i 0) (get_or nodes i 0) refl) in
    omega arith

module _ (nodes : List ℕ) (i : ℕ) (l : i < length nodes) (a : ℕ) where
  times_same : get_or nodes i 0 ≡ a → times a (take (i + 1) nodes) ≡ times a (take i nodes) + 1
  times_same e =
      let r = sum_by_more (λ x. one_if (eqb x a)) nodes i 0 l in
      let one : one_if (eqb (get_or nodes i 0) a) ≡ 1 = ap one_if (eq-eqb (get_or nodes i 0) a e) in
      omega arith

  times_other : (get_or nodes i 0 ≡ a → ⊥) → times a (take (i + 1) nodes) ≡ times a (take i nodes)
  times_other n =
      let r = sum_by_more (λ x. one_if (eqb x a)) nodes i 0 l in
      let none : one_if (eqb (get_or nodes i 0) a) ≡ 0 = ap one_if (ne_eqb (get_or nodes i 0) a n) in
      omega arith

-- one more is closed
module _ (nodes : List ℕ) (i : ℕ) (l : i < length nodes) (old now : List ℕ) (in' : get_or nodes i 0 < length now) (some : 0 < get_or now (get_or nodes i 0) 0) (count_now : (a : ℕ) → get_or now a 0 + times a (take i nodes) ≡ get_or old a 0) where
  abbrev x : ℕ
  x = get_or nodes i 0

  abbrev after : List ℕ
  after = set now (get_or nodes i 0) (get_or now (get_or nodes i 0) 0 - 1)

  pub closed_count : (a : ℕ) → get_or (set now (get_or nodes i 0) (get_or now (get_or nodes i 0) 0 - 1)) a 0 + times a (take (i + 1) nodes) ≡ get_or old a 0
  closed_count a =
      let e = count_now a in
      elim (cases_eq x a) [
        | inl is ↦
            let t = times_same nodes i l a is in
            let r : get_or after a 0 ≡ get_or now x 0 - 1 = ap (λ k. get_or after k 0) (sym is) ∙ get_or-set_same now x (get_or now x 0 - 1) 0 in' in
            let s : get_or now x 0 ≡ get_or now a 0 = ap (λ k. get_or now k 0) is in
            omega arith
        | inr n ↦
            let t = times_other nodes i l a n in
            let r : get_or after a 0 ≡ get_or now a 0 = get_or-set_other now x a (get_or now x 0 - 1) 0 (λ z. n (sym z)) in
            omega arith
      ]

  pub closed_ready : (ready0 ready1 ready2 : List ℕ) → ((a : ℕ) → Contains ready1 a ↔ (Contains ready0 a ⊎ ((0 < times a (take i nodes)) × (get_or now a 0 ≡ 0))))
      → ((a : ℕ) → Contains ready2 a ↔ (Contains ready1 a ⊎ ((get_or nodes i 0 ≡ a) × (get_or now (get_or nodes i 0) 0 ≡ 1))))
      → (a : ℕ) → Contains ready2 a ↔ (Contains ready0 a ⊎ ((0 < times a (take (i + 1) nodes)) × (get_or (set now (get_or nodes i 0) (get_or now (get_or nodes i 0) 0 - 1)) a 0 ≡ 0)))
  closed_ready ready0 ready1 ready2 before add a =
      let e = count_now a in
      elim (cases_eq x a) [
        | inl is ↦
            let t = times_same nodes i l a is in
            let r : get_or after a 0 ≡ get_or now x 0 - 1 = ap (λ k. get_or after k 0) (sym is) ∙ get_or-set_same now x (get_or now x 0 - 1) 0 in' in
            let s : get_or now x 0 ≡ get_or now a 0 = ap (λ k. get_or now k 0) is in (
              λ h. elim ((add a).0 h) [
                | inl was ↦ elim ((before a).0 was) [ inl first ↦ inl first | inr done ↦ let z : get_or now a 0 ≡ 0 = done.1 in absurd (omega arith) ]
                | inr new ↦ let z : get_or now x 0 ≡ 1 = new.1 in inr (omega arith, omega arith)
              ],
              λ h. elim h [
                | inl first ↦ (add a).1 (inl ((before a).1 (inl first)))
                | inr done ↦ let z : get_or after a 0 ≡ 0 = done.1 in (add a).1 (inr (is, omega arith))
              ],
            )
        | inr n ↦
            let t = times_other nodes i l a n in
            let r : get_or after a 0 ≡ get_or now a 0 = get_or-set_other now x a (get_or now x 0 - 1) 0 (λ z. n (sym z)) in (
              λ h. elim ((add a).0 h) [
                | inl was ↦ elim ((before a).0 was) [ inl first ↦ inl first | inr done ↦ let y : 0 < times a (take i nodes) = done.0 in let z : get_or now a 0 ≡ 0 = done.1 in inr (omega arith, omega arith) ]
                | inr new ↦ absurd (n new.0)
              ],
              λ h. elim h [
                | inl first ↦ (add a).1 (inl ((before a).1 (inl first)))
                | inr done ↦ let y : 0 < times a (take (i + 1) nodes) = done.0 in let z : get_or after a 0 ≡ 0 = done.1 in (add a).1 (inl ((before a).1 (inr (omega arith, omega arith))))
              ],
            )
      ]

-- the counts at the start
module _ (g : List (List ℕ)) (n : ℕ) where
  abbrev size_of : ℕ → ℕ
  size_of a = length (successors_of g a)

  pub counted_more : (now : List ℕ) (size : ℕ) → length now ≡ n → size ≡ length (successors_of g n) → ((a : ℕ) → a < n → get_or now a 0 ≡ length (successors_of g a)) → (a : ℕ) → a < n + 1 → get_or (now ++ size ∷ []) a 0 ≡ length (successors_of g a)
  counted_more now size count is so_far a l =
      elim (cases_lt a n) [
        | inl before ↦ get_or_append_left now (size ∷ []) 0 a (omega arith) ∙ so_far a before
        | inr after ↦
            let e : a ≡ n = omega arith in
            get_or_push now size 0 a (omega arith) ∙ is ∙ ap size_of (sym e)
      ]

  pub ready_more : (old new : List ℕ) (size : ℕ) → size ≡ length (successors_of g n) → ((a : ℕ) → Contains old a ↔ ((a < n) × (length (successors_of g a) ≡ 0)))
      → ((size ≡ 0) × ((a : ℕ) → Contains new a ↔ (Contains old a ⊎ (n ≡ a)))) ⊎ ((size ≡ 0 → ⊥) × (new ≡ old)) → (a : ℕ) → Contains new a ↔ ((a < n + 1) × (length (successors_of g a) ≡ 0))
  ready_more old new size is before (inl put) a = (
    λ h. elim ((put.1 a).0 h) [
      | inl was ↦ let r = (before a).0 was in let l : a < n = r.0 in (omega arith, r.1)
      | inr e ↦ let z : size ≡ 0 = put.0 in let s : size_of n ≡ size_of a = ap size_of e in (omega arith, omega arith)
    ],
    λ h. let l : a < n + 1 = h.0 in elim (cases_lt a n) [ inl below ↦ (put.1 a).1 (inl ((before a).1 (below, h.1))) | inr past ↦ (put.1 a).1 (inr (omega arith)) ],
  )
  ready_more old new size is before (inr out) a =
      let P : List ℕ → Type 0 = λ xs. Contains xs a ↔ ((a < n + 1) × (length (successors_of g a) ≡ 0)) in
      subst P (sym out.1) (
        λ was. let r = (before a).0 was in let l : a < n = r.0 in (omega arith, r.1),
        λ h.
            let l : a < n + 1 = h.0 in
            let z : size_of a ≡ 0 = h.1 in
            elim (cases_lt a n) [
              | inl below ↦ (before a).1 (below, h.1)
              | inr past ↦ let e : a ≡ n = omega arith in let s : size_of a ≡ size_of n = ap size_of e in absurd (out.0 (omega arith))
            ],
      )

count_all : (xs : List ℕ) → count_by (λ b. not (is_among b [])) xs ≡ length xs
count_all [] = refl
count_all (x ∷ xs) = let e = sum_by-cons (λ b. one_if (not (is_among b []))) x xs in let r = count_all xs in omega arith

pub IsPlacing-none : (g : List (List ℕ)) (missing ready : List ℕ) (n : ℕ) → length g ≤ n → n ≤ length g → length missing ≡ n → ((a : ℕ) → a < n → get_or missing a 0 ≡ length (successors_of g a)) → ((a : ℕ) → Contains ready a ↔ ((a < n) × (length (successors_of g a) ≡ 0))) → IsPlacing g [] missing ready
IsPlacing-none g missing ready n up down count counted is = record {
  takes_least = λ i l. absurd (omega (arith, l));
  count = omega arith;
  missing_is = λ a. elim (cases_lt a n) [
    | inl below ↦ counted a below ∙ sym (count_all (successors_of g a))
    | inr past ↦ get_or_past missing a 0 (omega arith) ∙ sym (ap (λ xs. count_by (λ b. not (is_among b [])) xs) (get_or_past g a [] (omega arith)))
  ];
  ready_is = λ a. (
    λ h. let r = (is a).0 h in let l : a < n = r.0 in (omega arith, nowhere a, counted a l ∙ r.1),
    λ h. let l : a < length g = h.0 in let m : a < n = omega arith in (is a).1 (m, sym (counted a m) ∙ h.2),
  );
}

pub closed_more : (g : List (List ℕ)) (n : ℕ) → ((a b : ℕ) → a < n → Step g a b → b < length g) → All (λ next. next < length g) (successors_of g n) → (a b : ℕ) → a < n + 1 → Step g a b → b < length g
closed_more g n so_far all a b l s =
    elim (cases_lt a n) [
      | inl before ↦ so_far a b before s
      | inr after ↦
          let e : a ≡ n = omega arith in
          let P : ℕ → Type 0 = λ x. Step g x b in
          All-contains (λ next. next < length g) (successors_of g n) b all (subst P e s)
    ]

pub closed_all : (g : List (List ℕ)) (n : ℕ) → length g ≤ n → ((a b : ℕ) → a < n → Step g a b → b < length g) → IsClosed g
closed_all g n whole closed a b s = let l = Step-from g a b s in closed a b (omega arith) s
