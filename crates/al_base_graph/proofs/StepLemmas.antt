-- The steps of a graph, before and after a step is added.
use Rattle.std.proofs.Common.{◌≡◌, ◌≢◌, ◌⊎◌, ℕ, ◌<◌, ◌≤◌, List, [], ◌∷◌, ◌++◌, length, get_or, replicate, sym, subst, inl, inr, ⊎_elim, arith}
use Rattle.std.specs.List.{All, Contains}
use Rattle.std.proofs.lemmas.Bool.{cases_eq, cases_lt}
use Rattle.std.proofs.lemmas.List.{get_or-set_same, get_or-set_other, length-set, get_or_past, length-replicate, get_or-replicate}
use Rattle.std.proofs.lemmas.List.Elements.{Contains-get_or, Contains-append_left, Contains-push, Contains-push_cases}
use Rattle.al_base_graph.specs.Graphs.{successors_of, Step, IsClosed, with_step}
use Rattle.al_base_graph.proofs.ListLemmas.{Contains-same, Contains-none}

pub successors_same : (g : List (List ℕ)) (a b : ℕ) → a < length g → successors_of (with_step g a b) a ≡ successors_of g a ++ b ∷ []
successors_same g a b l = get_or-set_same g a (successors_of g a ++ b ∷ []) [] l

pub successors_other : (g : List (List ℕ)) (a b c : ℕ) → c ≢ a → successors_of (with_step g a b) c ≡ successors_of g c
successors_other g a b c n = get_or-set_other g a c (successors_of g a ++ b ∷ []) [] n

pub length-with_step : (g : List (List ℕ)) (a b : ℕ) → length (with_step g a b) ≡ length g
length-with_step g a b = length-set g a (successors_of g a ++ b ∷ [])

pub Step-from : (g : List (List ℕ)) (a b : ℕ) → Step g a b → a < length g
Step-from g a b s = ⊎_elim (λ l. l) (λ (l : length g ≤ a). absurd (Contains-none b (Contains-same _ [] b (get_or_past g a [] l) s))) (cases_lt a (length g))

-- a step of the graph with one more
pub Step-with_step : (g : List (List ℕ)) (a b : ℕ) → a < length g → (c d : ℕ) → Step (with_step g a b) c d → Step g c d ⊎ ((c ≡ a) × (d ≡ b))
Step-with_step g a b l c d s =
    elim (cases_eq c a) [
      | inl e ↦
          let at : Contains (successors_of (with_step g a b) a) d = let P : ℕ → Type 0 = λ n. Step (with_step g a b) n d in subst P e s in
          elim (Contains-push_cases (successors_of g a) b d (Contains-same _ _ d (successors_same g a b l) at)) [
            | inl h ↦ inl (let P : ℕ → Type 0 = λ n. Step g n d in subst P (sym e) h)
            | inr h ↦ inr (e, sym h)
          ]
      | inr n ↦ inl (Contains-same _ _ d (successors_other g a b c n) s)
    ]

pub Step-added : (g : List (List ℕ)) (a b : ℕ) → a < length g → Step (with_step g a b) a b
Step-added g a b l = Contains-same _ _ b (sym (successors_same g a b l)) (Contains-push (successors_of g a) b)

pub Step-kept : (g : List (List ℕ)) (a b : ℕ) → a < length g → (c d : ℕ) → Step g c d → Step (with_step g a b) c d
Step-kept g a b l c d s =
    elim (cases_eq c a) [
      | inl e ↦
          let at : Contains (successors_of g a) d = let P : ℕ → Type 0 = λ n. Step g n d in subst P e s in
          let after : Step (with_step g a b) a d = Contains-same _ _ d (sym (successors_same g a b l)) (Contains-append_left (successors_of g a) (b ∷ []) d at) in
          let P : ℕ → Type 0 = λ n. Step (with_step g a b) n d in subst P (sym e) after
      | inr n ↦ Contains-same _ _ d (sym (successors_other g a b c n)) s
    ]

pub IsClosed-with_step : (g : List (List ℕ)) (a b : ℕ) → a < length g → b < length g → IsClosed g → IsClosed (with_step g a b)
IsClosed-with_step g a b l m closed c d s =
    let same = length-with_step g a b in
    elim (Step-with_step g a b l c d s) [
      | inl h ↦ let below = closed c d h in omega arith
      | inr h ↦ omega arith
    ]

pub no_step : (n a b : ℕ) → Step (replicate n []) a b → ⊥
no_step n a b s =
    let l : a < length (replicate {A = List ℕ} n []) = Step-from (replicate n []) a b s in
    let m : a < n = omega (arith, length-replicate {A = List ℕ}) in
    Contains-none b (Contains-same _ [] b (get_or-replicate n a [] [] m) s)

pub IsClosed-none : (n : ℕ) → IsClosed (replicate n [])
IsClosed-none n a b s = absurd (no_step n a b s)

pub within_closed : (g : List (List ℕ)) (a : ℕ) → IsClosed g → All (λ next. next < length g) (successors_of g a)
within_closed g a closed k d l =
    closed a (get_or (successors_of g a) k d) (Contains-get_or (successors_of g a) k d l)
