-- A list that grows by one item at a time, to which a step leads, until there is none, has all that is reached.
use Rattle.std.proofs.Common.{◌≡◌, ℕ, zero, suc, ◌≤◌, Bool, true, false, ◌⊎◌, inl, inr, ◌↔◌, List, [], ◌∷◌, ◌++◌, length, Option, Some, None, refl, sym, ap, subst, ◌∙◌, arith, if◌then◌else◌}
use Rattle.std.specs.Option.{option_map, option_map_or}
use Rattle.std.specs.List.{Contains, flat_map}
use Rattle.std.proofs.lemmas.List.Elements.{Contains-append_left, Contains-push, Contains-push_cases}
use Rattle.al_base_graph.specs.Closing.{Reached, is_among, is_next, pick, grow, closing, IsEquality, BeginsAt, ClosingIsReached}
use Rattle.al_base_graph.specs.Closing.Reached.{start, further}
use Rattle.al_base_graph.proofs.Members.{nowhere, first, later, first_or_later, any_from, any_into, into_flat_map}

module _ {X : Type 0} (p : X → Bool) where
  -- what a pick takes passes, the others and it are what the list has, and where it takes none, none passes
  pub record IsTaken (xs : List X) (y : X) (ys : List X) : Type 0 where
    pub passes : p y ≡ true
    pub of_list : Contains xs y
    pub others : (z : X) → Contains xs z → (y ≡ z) ⊎ Contains ys z
    pub fewer : length xs ≡ suc (length ys)

  abbrev IsPick : List X → Option (X × List X) → Type 0
  IsPick xs None = (z : X) → Contains xs z → p z ≡ false
  IsPick xs (Some r) = IsTaken xs r.0 r.1

  further_pick : (x : X) (xs : List X) → p x ≡ false → (o : Option (X × List X)) → IsPick xs o → IsPick (x ∷ xs) (option_map (λ r. (r.0, x ∷ r.1)) o)
  further_pick x xs fails None none =
      λ z c. elim (first_or_later x xs z c) [ inl same ↦ ap p (sym same) ∙ fails | inr h ↦ none z h ]
  further_pick x xs fails (Some r) taken = record {
    passes = taken.passes;
    of_list = later x xs r.0 taken.of_list;
    others = λ z c.
        elim (first_or_later x xs z c) [
          | inl same ↦ inr (subst (λ v. Contains (x ∷ r.1) v) same (first x r.1))
          | inr h ↦ elim (taken.others z h) [ inl is ↦ inl is | inr rest ↦ inr (later x r.1 z rest) ]
        ];
    fewer = ap suc taken.fewer;
  }

  pick_by : (x : X) (xs : List X) (b : Bool) → p x ≡ b → IsPick xs (pick p xs) → IsPick (x ∷ xs) (if b then Some (x, xs) else option_map (λ r. (r.0, x ∷ r.1)) (pick p xs))
  pick_by x xs true is rest = record {
    passes = is;
    of_list = first x xs;
    others = λ z c. first_or_later x xs z c;
    fewer = refl;
  }
  pick_by x xs false is rest = further_pick x xs is (pick p xs) rest

  pub picked : (xs : List X) → IsPick xs (pick p xs)
  picked [] = λ z c. absurd (nowhere z c)
  picked (x ∷ xs) = pick_by x xs (p x) refl (picked xs)

module _ {X : Type 0} (same : X → X → Bool) (equality : IsEquality same) (next : X → List X) (from : List X) where
  among_from : (x : X) (xs : List X) → is_among same x xs ≡ true → Contains xs x
  among_from x xs is =
      let r = any_from (same x) xs is in
      subst (λ v. Contains xs v) (sym ((equality x r.0).0 r.2)) r.1

  next_from : (xs : List X) (x : X) → is_next same next xs x ≡ true → (y : X) × Contains xs y × Contains (next y) x
  next_from xs x is =
      let r = any_from (λ y. is_among same x (next y)) xs is in
      (r.0, r.1, among_from x (next r.0) r.2)

  next_into : (xs : List X) (x y : X) → Contains xs y → Contains (next y) x → is_next same next xs x ≡ true
  next_into xs x y c d =
      any_into (λ y. is_among same x (next y)) xs y c (any_into (same x) (next y) x d ((equality x x).1 refl))

  -- so far the items are reached, and all that is reached is one of them or of the others
  pub record IsGrown (xs others : List X) : Type 0 where
    pub sound : (y : X) → Contains xs y → Reached next from y
    pub begun : (y : X) → Contains from y → Contains xs y
    pub covered : (y : X) → Reached next from y → Contains xs y ⊎ Contains others y

  -- where no step leads to one of the others, the items are all that is reached
  all_reached : (xs others : List X) → IsGrown xs others → ((z : X) → Contains others z → is_next same next xs z ≡ false) → (y : X) → Reached next from y → Contains xs y
  all_reached xs others so_far none y (start c) = so_far.begun y c
  all_reached xs others so_far none y (further {x = x} r c) =
      elim (so_far.covered y (further r c)) [
        | inl h ↦ h
        | inr h ↦ absurd (let leads = next_into xs y x (all_reached xs others so_far none x r) c in let fails = none y h in cc)
      ]

  grown_further : (xs others : List X) (x : X) (rest : List X) → IsGrown xs others → IsTaken (is_next same next xs) others x rest → IsGrown (xs ++ x ∷ []) rest
  grown_further xs others x rest so_far taken =
      let way = next_from xs x taken.passes in
      record {
        sound = λ y c.
            elim (Contains-push_cases xs x y c) [
              | inl h ↦ so_far.sound y h
              | inr is ↦ subst (λ v. Reached next from v) is (further (so_far.sound way.0 way.1) way.2)
            ];
        begun = λ y c. Contains-append_left xs (x ∷ []) y (so_far.begun y c);
        covered = λ y r.
            elim (so_far.covered y r) [
              | inl h ↦ inl (Contains-append_left xs (x ∷ []) y h)
              | inr h ↦ elim (taken.others y h) [
                | inl is ↦ inl (subst (λ v. Contains (xs ++ x ∷ []) v) is (Contains-push xs x))
                | inr left ↦ inr left
              ]
            ];
      }

  mutual_step : (n : ℕ) (xs others : List X) → length others ≤ suc n → IsGrown xs others → ((ys left : List X) → length left ≤ n → IsGrown ys left → (y : X) → Contains (grow same next n ys left) y ↔ Reached next from y) → (o : Option (X × List X)) → IsPick (is_next same next xs) others o → (y : X) → Contains (option_map_or (λ r. grow same next n (xs ++ r.0 ∷ []) r.1) o xs) y ↔ Reached next from y
  mutual_step n xs others enough so_far rest None none y = (so_far.sound y, all_reached xs others so_far none y)
  mutual_step n xs others enough so_far rest (Some r) taken y =
      rest (xs ++ r.0 ∷ []) r.1 (let fewer = taken.fewer in omega arith) (grown_further xs others r.0 r.1 so_far taken) y

  grown_to : (n : ℕ) (xs others : List X) → length others ≤ n → IsGrown xs others → (y : X) → Contains (grow same next n xs others) y ↔ Reached next from y
  grown_to zero xs others enough so_far y = (
    so_far.sound y,
    all_reached xs others so_far (λ z c. let l = c.1 in absurd (omega arith)) y,
  )
  grown_to (suc n) xs others enough so_far y =
      mutual_step n xs others enough so_far (grown_to n) (pick (is_next same next xs) others) (picked (is_next same next xs) others) y

  covered_at_start : (nodes : List X) → BeginsAt next nodes → (y : X) → Reached next from y → Contains from y ⊎ Contains (flat_map next nodes) y
  covered_at_start nodes begins y (start c) = inl c
  covered_at_start nodes begins y (further {x = x} r c) = inr (into_flat_map next nodes x y (begins x y c) c)

pub closing_reached : {X : Type 0} → ClosingIsReached X
unfolding closing
closing_reached same next nodes from equality begins =
    grown_to same equality next from (length (flat_map next nodes)) from (flat_map next nodes) (omega arith) (record {
      sound = λ y c. start c;
      begun = λ y c. c;
      covered = covered_at_start same equality next from nodes begins;
    })
