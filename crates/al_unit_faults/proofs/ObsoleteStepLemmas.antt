-- Lists of numbers and of steps that grow by one at a time.
use Rattle.std.proofs.Common.{◌≡◌, ℕ, ◌+◌, ◌<◌, ◌≤◌, Bool, true, false, List, [], ◌∷◌, ◌++◌, ◌⊎◌, inl, inr, ◌↔◌, length, replicate, ap, subst, sym, ◌∙◌, arith}
use Rattle.std.specs.List.{Contains}
use Rattle.std.proofs.lemmas.Bool.{cases_lt}
use Rattle.std.proofs.lemmas.List.Elements.{Contains-append_left, Contains-push, Contains-push_cases}
use Rattle.al_base_graph.specs.Graphs.{Step, with_step}
use Rattle.al_base_graph.proofs.Members.{nowhere}
use Rattle.al_base_graph.proofs.StepLemmas.{Step-with_step, Step-added, Step-kept, no_step}

-- the numbers below a bound that pass a test
abbrev pub AreThose : (ℕ → Bool) → ℕ → List ℕ → Type 0
AreThose p i xs = (a : ℕ) → Contains xs a ↔ ((a < i) × (p a ≡ true))

those_by : (p : ℕ → Bool) (i : ℕ) (xs : List ℕ) (a : ℕ) → AreThose p i xs → p a ≡ true → (a < i) ⊎ (i ≤ a) → a < i + 1 → Contains (xs ++ i ∷ []) a
those_by p i xs a so_far is (inl less) near = Contains-append_left xs (i ∷ []) a ((so_far a).1 (less, is))
those_by p i xs a so_far is (inr past) near = let same : i ≡ a = omega arith in subst (λ v. Contains (xs ++ i ∷ []) v) same (Contains-push xs i)

pub those_yes : (p : ℕ → Bool) (i : ℕ) (xs : List ℕ) → AreThose p i xs → p i ≡ true → AreThose p (i + 1) (xs ++ i ∷ [])
those_yes p i xs so_far is a = (
  (λ c.
      elim (Contains-push_cases xs i a c) [
        | inl h ↦ let r = (so_far a).0 h in let less : a < i = r.0 in (omega arith, r.1)
        | inr same ↦ (omega arith, ap p (sym same) ∙ is)
      ]),
  (λ r. those_by p i xs a so_far r.1 (cases_lt a i) r.0),
)

pub those_no : (p : ℕ → Bool) (i : ℕ) (xs : List ℕ) → AreThose p i xs → p i ≡ false → AreThose p (i + 1) xs
those_no p i xs so_far fails a = (
  (λ c. let r = (so_far a).0 c in let less : a < i = r.0 in (omega arith, r.1)),
  (λ r.
      elim (cases_lt a i) [
        | inl less ↦ (so_far a).1 (less, r.1)
        | inr past ↦ let near = r.0 in let same : a ≡ i = omega (arith, near) in absurd (let e = sym r.1 ∙ ap p same ∙ fails in cc)
      ]),
)

-- the steps of a graph are those of a list
abbrev pub HasSteps : List (List ℕ) → List (ℕ × ℕ) → Type 0
HasSteps g steps = (a b : ℕ) → Step g a b ↔ Contains steps (a, b)

pub steps_none : (count : ℕ) → HasSteps (replicate count []) []
steps_none count a b = ((λ s. absurd (no_step count a b s)), (λ c. absurd (nowhere (a, b) c)))

pub steps_more : (g : List (List ℕ)) (steps : List (ℕ × ℕ)) (from to : ℕ) → from < length g → HasSteps g steps → HasSteps (with_step g from to) (steps ++ (from, to) ∷ [])
steps_more g steps from to within so_far a b = (
  (λ s.
      elim (Step-with_step g from to within a b s) [
        | inl h ↦ Contains-append_left steps ((from, to) ∷ []) (a, b) ((so_far a b).0 h)
        | inr e ↦
            let P : ℕ → Type 0 = λ v. Contains (steps ++ (from, to) ∷ []) (v, b) in
            let Q : ℕ → Type 0 = λ v. Contains (steps ++ (from, to) ∷ []) (from, v) in
            subst P (sym e.0) (subst Q (sym e.1) (Contains-push steps (from, to)))
      ]),
  (λ c.
      elim (Contains-push_cases steps (from, to) (a, b) c) [
        | inl h ↦ Step-kept g from to within a b ((so_far a b).1 h)
        | inr is ↦
            let P : ℕ × ℕ → Type 0 = λ t. Step (with_step g from to) t.0 t.1 in
            subst P is (Step-added g from to within)
      ]),
)
