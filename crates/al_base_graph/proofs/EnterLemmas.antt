-- A walk where a node that wasn't seen goes to the end of the path.
use Rattle.std.proofs.Common.{◌≡◌, ◌≢◌, ◌⊎◌, ℕ, ◌+◌, ◌<◌, ◌≤◌, Bool, List, [], ◌∷◌, ◌++◌, length, get_or, set, sym, ap, ◌∙◌, subst, inl, inr, arith}
use Rattle.std.specs.List.{Contains}
use Rattle.std.proofs.lemmas.Bool.{cases_eq, cases_lt}
use Rattle.std.proofs.lemmas.List.{get_or_append_left, get_or_push, length_push, length-set, get_or-set_same, get_or-set_other}
use Rattle.std.proofs.lemmas.List.Elements.{Contains-append_left, Contains-push, Contains-push_cases}
use Rattle.al_base_graph.specs.Graphs.{successors_of, Reaches}
use Rattle.al_base_graph.specs.Graphs.Reaches.{here}
use Rattle.al_base_graph.specs.Walks.{place_of, IsJoined, IsSettled, IsWalk, KeepsSeen}
use Rattle.al_base_graph.specs.declared.walk.Place.{Place}
use Rattle.al_base_graph.specs.declared.walk.Place.TheVariants.{Unseen, OnPath, Done}
use Rattle.al_base_graph.proofs.AscendingLemmas.{IsAscending-push}

module _ (g : List (List ℕ)) (places : List Place) (left path visiting begins : List ℕ) (flags : List Bool) (w : IsWalk g places left path visiting begins flags) (a : ℕ) (l : a < length g) (unseen : place_of places a ≡ Unseen) (leads : (i : ℕ) → i < length path → Reaches g (get_or path i 0) a) where
  same_place : (b : ℕ) → b ≢ a → place_of (set places a (OnPath (length path))) b ≡ place_of places b
  same_place b n = get_or-set_other places a b (OnPath (length path)) Unseen n

  new_place : place_of (set places a (OnPath (length path))) a ≡ OnPath (length path)
  new_place = get_or-set_same places a (OnPath (length path)) Unseen (let e = w.places_count in omega arith)

  longer : length (path ++ a ∷ []) ≡ length path + 1
  longer = length_push path a

  old_at : (i : ℕ) → i < length path → get_or (path ++ a ∷ []) i 0 ≡ get_or path i 0
  old_at i m = get_or_append_left path (a ∷ []) 0 i m

  new_at : (i : ℕ) → length path ≡ i → get_or (path ++ a ∷ []) i 0 ≡ a
  new_at i e = get_or_push path a 0 i e

  other : (b : ℕ) (p : Place) → p ≢ Unseen → place_of places b ≡ p → b ≢ a
  other b p n e same = n (sym e ∙ ap (place_of places) same ∙ unseen)

  old_other : (i : ℕ) → i < length path → get_or path i 0 ≢ a
  old_other i m = other (get_or path i 0) (OnPath i) (λ e. cc) (w.on_path i m)

  on_path_after : (i : ℕ) → i < length (path ++ a ∷ []) → place_of (set places a (OnPath (length path))) (get_or (path ++ a ∷ []) i 0) ≡ OnPath i
  on_path_after i m =
      let count = longer in
      elim (cases_lt i (length path)) [
        | inl before ↦ ap (place_of (set places a (OnPath (length path)))) (old_at i before) ∙ same_place _ (old_other i before) ∙ w.on_path i before
        | inr after ↦ let e : length path ≡ i = omega arith in ap (place_of (set places a (OnPath (length path)))) (new_at i e) ∙ new_place ∙ ap (λ n. OnPath n) e
      ]

  of_path_after : (b i : ℕ) → place_of (set places a (OnPath (length path))) b ≡ OnPath i → (i < length (path ++ a ∷ [])) × (get_or (path ++ a ∷ []) i 0 ≡ b)
  of_path_after b i p =
      let count = longer in
      elim (cases_eq b a) [
        | inl e ↦
            let q : OnPath (length path) ≡ OnPath i = sym new_place ∙ ap (place_of (set places a (OnPath (length path)))) (sym e) ∙ p in
            let same : length path ≡ i = cc in
            (omega arith, new_at i same ∙ sym e)
        | inr n ↦
            let old = w.of_path b i (sym (same_place b n) ∙ p) in
            let m : i < length path = old.0 in
            (omega arith, old_at i m ∙ old.1)
      ]

  unseen_after : (b : ℕ) → place_of (set places a (OnPath (length path))) b ≡ Unseen → place_of places b ≡ Unseen
  unseen_after b p =
      elim (cases_eq b a) [
        | inl e ↦ ap (place_of places) e ∙ unseen
        | inr n ↦ sym (same_place b n) ∙ p
      ]

  pub enter_keeps : KeepsSeen places (set places a (OnPath (length path)))
  enter_keeps b p = unseen_after b p

  done_before : (b : ℕ) → place_of (set places a (OnPath (length path))) b ≡ Done → place_of places b ≡ Done
  done_before b p =
      elim (cases_eq b a) [
        | inl e ↦ let q : OnPath (length path) ≡ Done = sym new_place ∙ ap (place_of (set places a (OnPath (length path)))) (sym e) ∙ p in absurd cc
        | inr n ↦ sym (same_place b n) ∙ p
      ]

  done_after : (b : ℕ) → place_of places b ≡ Done → place_of (set places a (OnPath (length path))) b ≡ Done
  done_after b p = same_place b (other b Done (λ e. cc) p) ∙ p

  leads_on_after : (i j : ℕ) → i ≤ j → j < length (path ++ a ∷ []) → Reaches g (get_or (path ++ a ∷ []) i 0) (get_or (path ++ a ∷ []) j 0)
  leads_on_after i j m k =
      let count = longer in
      let P : ℕ → Type 0 = λ x. Reaches g x (get_or (path ++ a ∷ []) j 0) in
      elim (cases_lt j (length path)) [
        | inl before ↦
            let Q : ℕ → Type 0 = λ y. Reaches g (get_or path i 0) y in
            subst P (sym (old_at i (omega arith))) (subst Q (sym (old_at j before)) (w.leads_on i j m before))
        | inr after ↦
            let e : length path ≡ j = omega arith in
            elim (cases_lt i (length path)) [
              | inl first ↦
                  let Q : ℕ → Type 0 = λ y. Reaches g (get_or path i 0) y in
                  subst P (sym (old_at i first)) (subst Q (sym (new_at j e)) (leads i first))
              | inr same ↦
                  let d : i ≡ j = omega arith in
                  let Q : ℕ → Type 0 = λ k. Reaches g (get_or (path ++ a ∷ []) i 0) (get_or (path ++ a ∷ []) k 0) in
                  subst Q d here
            ]
      ]

  joined_before : (i j : ℕ) → IsJoined (begins ++ length path ∷ []) j i → IsJoined begins j i
  joined_before i j joined b h m = joined b (Contains-append_left begins (length path ∷ []) b h) m

  joined_after : (i j : ℕ) → i < length path → IsJoined begins j i → IsJoined (begins ++ length path ∷ []) j i
  joined_after i j m joined b h k =
      elim (Contains-push_cases begins (length path) b h) [ inl old ↦ joined b old k | inr e ↦ omega arith ]

  leads_back_after : (i j : ℕ) → j ≤ i → i < length (path ++ a ∷ []) → IsJoined (begins ++ length path ∷ []) j i → Reaches g (get_or (path ++ a ∷ []) i 0) (get_or (path ++ a ∷ []) j 0)
  leads_back_after i j m k joined =
      let count = longer in
      elim (cases_lt i (length path)) [
        | inl before ↦
            let P : ℕ → Type 0 = λ x. Reaches g x (get_or (path ++ a ∷ []) j 0) in
            let Q : ℕ → Type 0 = λ y. Reaches g (get_or path i 0) y in
            subst P (sym (old_at i before)) (subst Q (sym (old_at j (omega arith))) (w.leads_back i j m before (joined_before i j joined)))
        | inr after ↦
            elim (cases_lt j i) [
              | inl below ↦ let past = joined (length path) (Contains-push begins (length path)) (omega arith) in absurd (omega arith)
              | inr same ↦
                  let d : i ≡ j = omega arith in
                  let Q : ℕ → Type 0 = λ k. Reaches g (get_or (path ++ a ∷ []) i 0) (get_or (path ++ a ∷ []) k 0) in
                  subst Q d here
            ]
      ]

  settled_after : (i b : ℕ) → i < length path → IsSettled places begins i b → IsSettled (set places a (OnPath (length path))) (begins ++ length path ∷ []) i b
  settled_after i b m s =
      elim s [
        | inl done ↦ inl (done_after b done)
        | inr on ↦ inr (on.0, same_place b (other b (OnPath on.0) (λ e. cc) on.1) ∙ on.1, joined_after i on.0 m on.2)
      ]

  looked_after : (i k : ℕ) → i < length (path ++ a ∷ []) → get_or left (get_or (path ++ a ∷ []) i 0) 0 ≤ k → k < length (successors_of g (get_or (path ++ a ∷ []) i 0)) → IsSettled (set places a (OnPath (length path))) (begins ++ length path ∷ []) i (get_or (successors_of g (get_or (path ++ a ∷ []) i 0)) k 0)
  looked_after i k m from within =
      let count = longer in
      let P : ℕ → Type 0 = λ x. get_or left x 0 ≤ k in
      let Q : ℕ → Type 0 = λ x. k < length (successors_of g x) in
      let R : ℕ → Type 0 = λ x. IsSettled (set places a (OnPath (length path))) (begins ++ length path ∷ []) i (get_or (successors_of g x) k 0) in
      elim (cases_lt i (length path)) [
        | inl before ↦
            subst R (sym (old_at i before)) (settled_after i _ before (w.looked_at i k before (subst P (old_at i before) from) (subst Q (old_at i before) within)))
        | inr after ↦
            let e : length path ≡ i = omega arith in
            let f : get_or left a 0 ≤ k = subst P (new_at i e) from in
            let h : k < length (successors_of g a) = subst Q (new_at i e) within in
            let all = w.unseen_left a unseen in
            absurd (omega arith)
      ]

  visiting_after : (i : ℕ) → i < length (path ++ a ∷ []) → Contains (visiting ++ length path ∷ []) i ⊎ (get_or left (get_or (path ++ a ∷ []) i 0) 0 ≡ 0)
  visiting_after i m =
      let count = longer in
      elim (cases_lt i (length path)) [
        | inl before ↦ elim (w.visiting_or_all i before) [
          | inl old ↦ inl (Contains-append_left visiting (length path ∷ []) i old)
          | inr all ↦ inr (ap (λ x. get_or left x 0) (old_at i before) ∙ all)
        ]
        | inr after ↦
            let e : length path ≡ i = omega arith in
            let P : ℕ → Type 0 = λ n. Contains (visiting ++ length path ∷ []) n in
            inl (subst P e (Contains-push visiting (length path)))
      ]

  pub enter_walks : IsWalk g (set places a (OnPath (length path))) left (path ++ a ∷ []) (visiting ++ length path ∷ []) (begins ++ length path ∷ []) flags
  enter_walks = record {
    places_count = length-set places a (OnPath (length path)) ∙ w.places_count;
    left_count = w.left_count;
    flags_count = w.flags_count;
    on_path = on_path_after;
    of_path = of_path_after;
    left_fits = w.left_fits;
    unseen_left = λ b p. w.unseen_left b (unseen_after b p);
    leads_on = leads_on_after;
    leads_back = leads_back_after;
    looked_at = looked_after;
    visiting_or_all = visiting_after;
    visiting_within = λ i h. let count = longer in elim (Contains-push_cases visiting (length path) i h) [ inl old ↦ let m = w.visiting_within i old in omega arith | inr e ↦ omega arith ];
    visiting_ascends = IsAscending-push visiting (length path) w.visiting_ascends (λ i h. w.visiting_within i h);
    begins_ascend = IsAscending-push begins (length path) w.begins_ascend (λ i h. w.visiting_within i (w.begins_visiting i h));
    begins_visiting = λ i h. elim (Contains-push_cases begins (length path) i h) [
      | inl old ↦ Contains-append_left visiting (length path ∷ []) i (w.begins_visiting i old)
      | inr e ↦ let P : ℕ → Type 0 = λ n. Contains (visiting ++ length path ∷ []) n in subst P e (Contains-push visiting (length path))
    ];
    first_begins = λ m. elim (cases_lt 0 (length path)) [
      | inl some ↦ Contains-append_left begins (length path ∷ []) 0 (w.first_begins some)
      | inr empty ↦ let e : length path ≡ 0 = omega arith in let P : ℕ → Type 0 = λ n. Contains (begins ++ length path ∷ []) n in subst P e (Contains-push begins (length path))
    ];
    done_closed = λ b c p s. done_after c (w.done_closed b c (done_before b p) s);
    done_flags = λ b p. w.done_flags b (done_before b p);
  }
