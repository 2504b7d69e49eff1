-- Orders and cycles are unique.
use Rattle.std.proofs.Common.{◌≡◌, ◌≢◌, ◌⊎◌, ℕ, zero, suc, ◌+◌, ◌-◌, ◌<◌, ◌≤◌, Bool, List, [], ◌∷◌, ◌++◌, length, get_or, take, drop, refl, sym, ap, ◌∙◌, subst, inl, inr, arith}
use Rattle.std.specs.List.{Contains}
use Rattle.std.proofs.lemmas.Bool.{cases_lt}
use Rattle.std.proofs.lemmas.List.{take_all, take_more_same, get_or_append_left, get_or-append_right, get_or-append-add, get_or_push, get_or_past, length_push, length-append, same_lists, get_or_default, drop_at}
use Rattle.std.proofs.lemmas.List.Elements.{Contains-get_or}
use Rattle.al_base_graph.specs.Graphs.{Step}
use Rattle.al_base_graph.specs.Orders.{IsLeast, IsAvailable, TakesLeast, IsOrder, IsStuck, AreDistinct, IsStuckWalk, IsCycle, next_in}
use Rattle.al_base_graph.proofs.PlacingLemmas.{into_take}

pub one_least : (P : ℕ → Type 0) (a b : ℕ) → IsLeast P a → IsLeast P b → a ≡ b
one_least P a b x y = let l = x.1 b y.0 in let m = y.1 a x.0 in omega arith

pub order_once : (g : List (List ℕ)) (order : List ℕ) → IsOrder g order → AreDistinct order
order_once g order is i j l m e =
    let P : ℕ → Type 0 = λ x. Contains (take j order) x in
    (is.takes_least j m).0.1 (subst P e (into_take j order i l (omega arith)))

module _ (g : List (List ℕ)) where
  same_upto : (xs ys : List ℕ) → TakesLeast g xs → TakesLeast g ys → (n : ℕ) → n ≤ length xs → n ≤ length ys → take n xs ≡ take n ys
  same_upto xs ys x y zero l m = refl
  same_upto xs ys x y (suc n) l m =
      let before = same_upto xs ys x y n (omega arith) (omega arith) in
      let P : List ℕ → Type 0 = λ zs. IsLeast (IsAvailable g zs) (get_or xs n 0) in
      let same = one_least (IsAvailable g (take n ys)) (get_or xs n 0) (get_or ys n 0) (subst P before (x n (omega arith))) (y n (omega arith)) in
      let e : n + 1 ≡ suc n = omega arith in
      let Q : ℕ → Type 0 = λ k. take k xs ≡ take k ys in
      subst Q e (take_more_same xs ys n 0 (omega arith) (omega arith) before same)

  not_shorter : (xs ys : List ℕ) → IsOrder g xs → IsOrder g ys → length xs < length ys → ⊥
  not_shorter xs ys x y l =
      let same = same_upto xs ys x.takes_least y.takes_least (length xs) (omega arith) (omega arith) in
      let all : take (length xs) ys ≡ xs = sym same ∙ take_all (length xs) xs (omega arith) in
      let next = (y.takes_least (length xs) l).0 in
      let P : List ℕ → Type 0 = λ zs. Contains zs (get_or ys (length xs) 0) in
      next.1 (subst P (sym all) (x.all (get_or ys (length xs) 0) next.0))

  pub one_order : (xs ys : List ℕ) → IsOrder g xs → IsOrder g ys → xs ≡ ys
  one_order xs ys x y =
      elim (cases_lt (length xs) (length ys)) [
        | inl l ↦ absurd (not_shorter xs ys x y l)
        | inr m ↦ elim (cases_lt (length ys) (length xs)) [
          | inl l ↦ absurd (not_shorter ys xs y x l)
          | inr n ↦
              sym (take_all (length xs) xs (omega arith))
              ∙ same_upto xs ys x.takes_least y.takes_least (length xs) (omega arith) (omega arith)
              ∙ take_all (length xs) ys (omega arith)
        ]
      ]

  -- the place after the front, and the one at the end of the walk
  module _ (front cycle : List ℕ) (some : 0 < length cycle) where
    abbrev whole : List ℕ
    whole = (front ++ cycle) ++ get_or cycle 0 0 ∷ []

    whole_length : length ((front ++ cycle) ++ get_or cycle 0 0 ∷ []) ≡ length front + length cycle + 1
    whole_length = let e = length_push (front ++ cycle) (get_or cycle 0 0) in let f = length-append front cycle in omega arith

    at_cycle : (i : ℕ) → i < length cycle → get_or ((front ++ cycle) ++ get_or cycle 0 0 ∷ []) (length front + i) 0 ≡ get_or cycle i 0
    at_cycle i l =
        let f = length-append front cycle in
        get_or_append_left (front ++ cycle) (get_or cycle 0 0 ∷ []) 0 (length front + i) (omega arith) ∙ get_or-append-add front cycle i 0

    at_end : get_or ((front ++ cycle) ++ get_or cycle 0 0 ∷ []) (length front + length cycle) 0 ≡ get_or cycle 0 0
    at_end = get_or_push (front ++ cycle) (get_or cycle 0 0) 0 (length front + length cycle) (length-append front cycle)

    after : (i : ℕ) → i < length cycle → get_or ((front ++ cycle) ++ get_or cycle 0 0 ∷ []) (length front + i + 1) 0 ≡ next_in cycle i
    after i l =
        elim (cases_lt (i + 1) (length cycle)) [
          | inl more ↦
              ap (λ k. get_or whole k 0) (let e : length front + i + 1 ≡ length front + (i + 1) = omega arith in e)
              ∙ at_cycle (i + 1) more ∙ get_or_default cycle (i + 1) 0 (get_or cycle 0 0) more
          | inr last ↦
              ap (λ k. get_or whole k 0) (let e : length front + i + 1 ≡ length front + length cycle = omega arith in e)
              ∙ at_end ∙ sym (get_or_past cycle (i + 1) (get_or cycle 0 0) last)
        ]

    pub cycle_steps : IsStuckWalk g ((front ++ cycle) ++ get_or cycle 0 0 ∷ []) → (i : ℕ) → i < length cycle → Step g (get_or cycle i 0) (next_in cycle i) × IsStuck g (next_in cycle i)
    cycle_steps walk i l =
        let n = whole_length in
        let P : ℕ → Type 0 = λ x. Step g x (next_in cycle i) × IsStuck g (next_in cycle i) in
        let Q : ℕ → Type 0 = λ y. Step g (get_or whole (length front + i) 0) y × IsStuck g y in
        subst P (at_cycle i l) (subst Q (after i l) (walk.goes_on (length front + i) (omega arith)).0)

  walk_stuck : (walk : List ℕ) → IsStuckWalk g walk → (i : ℕ) → i < length walk → IsStuck g (get_or walk i 0)
  walk_stuck walk is zero l = is.begins.0
  walk_stuck walk is (suc i) l =
      let e : i + 1 ≡ suc i = omega arith in
      let P : ℕ → Type 0 = λ k. IsStuck g (get_or walk k 0) in
      subst P e (is.goes_on i (omega arith)).0.1

  pub cycle_stuck : (cycle : List ℕ) → IsCycle g cycle → (i : ℕ) → i < length cycle → IsStuck g (get_or cycle i 0)
  cycle_stuck cycle is i l =
      let n = whole_length is.front cycle is.some in
      subst (IsStuck g) (at_cycle is.front cycle is.some i l) (walk_stuck ((is.front ++ cycle) ++ get_or cycle 0 0 ∷ []) is.walk (length is.front + i) (omega arith))

  -- two walks are the same, as far as both go
  walks_agree : (xs ys : List ℕ) → IsStuckWalk g xs → IsStuckWalk g ys → (i : ℕ) → i < length xs → i < length ys → get_or xs i 0 ≡ get_or ys i 0
  walks_agree xs ys x y zero l m = one_least (IsStuck g) (get_or xs 0 0) (get_or ys 0 0) x.begins y.begins
  walks_agree xs ys x y (suc i) l m =
      let before = walks_agree xs ys x y i (omega arith) (omega arith) in
      let P : ℕ → Type 0 = λ a. IsLeast (λ b. Step g a b × IsStuck g b) (get_or xs (i + 1) 0) in
      let e : i + 1 ≡ suc i = omega arith in
      let Q : ℕ → Type 0 = λ k. get_or xs k 0 ≡ get_or ys k 0 in
      subst Q e (one_least (λ b. Step g (get_or ys i 0) b × IsStuck g b) (get_or xs (i + 1) 0) (get_or ys (i + 1) 0) (subst P before (x.goes_on i (omega arith))) (y.goes_on i (omega arith)))

  -- where one walk meets a node again, the other one does
  module _ (c d : List ℕ) (x : IsCycle g c) (y : IsCycle g d) where
    abbrev one : List ℕ
    one = (x.front ++ c) ++ get_or c 0 0 ∷ []

    abbrev two : List ℕ
    two = (y.front ++ d) ++ get_or d 0 0 ∷ []

    not_sooner : length x.front + length c < length y.front + length d → ⊥
    not_sooner l =
        let m = whole_length x.front c x.some in
        let n = whole_length y.front d y.some in
        let f = length-append y.front d in
        let some = x.some in
        let i = length x.front in
        let j = length x.front + length c in
        let meets : get_or one i 0 ≡ get_or one j 0 =
        ap (λ k. get_or one k 0) (let e : i ≡ i + 0 = omega arith in e) ∙ at_cycle x.front c x.some 0 x.some ∙ sym (at_end x.front c x.some) in
        let first : get_or one i 0 ≡ get_or two i 0 = walks_agree one two x.walk y.walk i (omega arith) (omega arith) in
        let second : get_or one j 0 ≡ get_or two j 0 = walks_agree one two x.walk y.walk j (omega arith) (omega arith) in
        let there : (k : ℕ) → k < length y.front + length d → get_or two k 0 ≡ get_or (y.front ++ d) k 0 = λ k h. get_or_append_left (y.front ++ d) (get_or d 0 0 ∷ []) 0 k (omega arith) in
        y.distinct i j (omega arith) (omega arith) (sym (there i (omega arith)) ∙ sym first ∙ meets ∙ second ∙ there j l)

    -- and where both walks end together, they meet the same place
    not_nearer : length x.front + length c ≡ length y.front + length d → length x.front < length y.front → ⊥
    not_nearer e l =
        let m = whole_length x.front c x.some in
        let n = whole_length y.front d y.some in
        let f = length-append y.front d in
        let some = x.some in
        let more = y.some in
        let i = length x.front in
        let j = length y.front in
        let at_i : get_or one i 0 ≡ get_or c 0 0 = ap (λ k. get_or one k 0) (let z : i ≡ i + 0 = omega arith in z) ∙ at_cycle x.front c x.some 0 x.some in
        let at_j : get_or two j 0 ≡ get_or d 0 0 = ap (λ k. get_or two k 0) (let z : j ≡ j + 0 = omega arith in z) ∙ at_cycle y.front d y.some 0 y.some in
        let first : get_or one i 0 ≡ get_or two i 0 = walks_agree one two x.walk y.walk i (omega arith) (omega arith) in
        let last : get_or one (length x.front + length c) 0 ≡ get_or two (length x.front + length c) 0 = walks_agree one two x.walk y.walk (length x.front + length c) (omega arith) (omega arith) in
        let ends : get_or c 0 0 ≡ get_or d 0 0 = sym (at_end x.front c x.some) ∙ last ∙ ap (λ k. get_or two k 0) e ∙ at_end y.front d y.some in
        let there : (k : ℕ) → k < length y.front + length d → get_or two k 0 ≡ get_or (y.front ++ d) k 0 = λ k h. get_or_append_left (y.front ++ d) (get_or d 0 0 ∷ []) 0 k (omega arith) in
        y.distinct i j l (omega arith) (sym (there i (omega arith)) ∙ sym first ∙ at_i ∙ ends ∙ sym at_j ∙ there j (omega arith))

    same_cycle : length x.front ≡ length y.front → length c ≡ length d → c ≡ d
    same_cycle e f =
        let m = whole_length x.front c x.some in
        let n = whole_length y.front d y.some in
        same_lists c d f (λ k z l.
        let h : get_or c k 0 ≡ get_or d k 0 =
        sym (at_cycle x.front c x.some k l)
        ∙ walks_agree one two x.walk y.walk (length x.front + k) (omega arith) (omega arith)
        ∙ ap (λ i. get_or two (i + k) 0) e
        ∙ at_cycle y.front d y.some k (omega arith) in
        get_or_default c k z 0 l ∙ h ∙ get_or_default d k 0 z (omega arith))

  pub one_cycle : (c d : List ℕ) → IsCycle g c → IsCycle g d → c ≡ d
  one_cycle c d x y =
      elim (cases_lt (length x.front + length c) (length y.front + length d)) [
        | inl sooner ↦ absurd (not_sooner c d x y sooner)
        | inr h ↦ elim (cases_lt (length y.front + length d) (length x.front + length c)) [
          | inl sooner ↦ absurd (not_sooner d c y x sooner)
          | inr k ↦ elim (cases_lt (length x.front) (length y.front)) [
            | inl nearer ↦ absurd (not_nearer c d x y (omega arith) nearer)
            | inr m ↦ elim (cases_lt (length y.front) (length x.front)) [
              | inl nearer ↦ absurd (not_nearer d c y x (omega arith) nearer)
              | inr n ↦ same_cycle c d x y (omega arith) (omega arith)
            ]
          ]
        ]
      ]
