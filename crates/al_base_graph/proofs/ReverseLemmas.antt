-- The steps of a graph the other way round.
use Rattle.std.proofs.Common.{◌≡◌, ◌↔◌, ◌⊎◌, ℕ, ◌+◌, ◌<◌, ◌≤◌, List, [], ◌∷◌, ◌++◌, length, replicate, sym, ◌∙◌, ap, subst, inl, inr, arith}
use Rattle.std.specs.List.{Contains}
use Rattle.std.proofs.lemmas.Bool.{cases_lt}
use Rattle.std.proofs.lemmas.List.{length-replicate}
use Rattle.std.proofs.lemmas.List.Elements.{Contains-append_left, Contains-push, Contains-push_cases}
use Rattle.al_base_graph.specs.Graphs.{Step, successors_of, with_step, IsReverse}
use Rattle.al_base_graph.proofs.StepLemmas.{Step-from, length-with_step, Step-with_step, Step-added, Step-kept, no_step}

-- h is g with a step from each of the nodes to one
pub record AddsTo (g h : List (List ℕ)) (nodes : List ℕ) (to : ℕ) : Type 0 where
  pub count : length h ≡ length g
  pub steps : (a b : ℕ) → Step h a b ↔ (Step g a b ⊎ ((b ≡ to) × Contains nodes a))

module _ (g h : List (List ℕ)) (nodes : List ℕ) (node to : ℕ) (l : node < length h) (adds : AddsTo g h nodes to) where
  step_after : (a b : ℕ) → Step (with_step h node to) a b → Step g a b ⊎ ((b ≡ to) × Contains (nodes ++ node ∷ []) a)
  step_after a b s =
      elim (Step-with_step h node to l a b s) [
        | inl old ↦ elim ((adds.steps a b).0 old) [
          | inl there ↦ inl there
          | inr new ↦ inr (new.0, Contains-append_left nodes (node ∷ []) a new.1)
        ]
        | inr new ↦ let P : ℕ → Type 0 = λ n. Contains (nodes ++ node ∷ []) n in inr (new.1, subst P (sym new.0) (Contains-push nodes node))
      ]

  step_before : (a b : ℕ) → Step g a b ⊎ ((b ≡ to) × Contains (nodes ++ node ∷ []) a) → Step (with_step h node to) a b
  step_before a b r =
      elim r [
        | inl there ↦ Step-kept h node to l a b ((adds.steps a b).1 (inl there))
        | inr new ↦ elim (Contains-push_cases nodes node a new.1) [
          | inl old ↦ Step-kept h node to l a b ((adds.steps a b).1 (inr (new.0, old)))
          | inr e ↦
              let P : ℕ → Type 0 = λ n. Step (with_step h node to) n b in
              let Q : ℕ → Type 0 = λ n. Step (with_step h node to) node n in
              subst P e (subst Q (sym new.0) (Step-added h node to l))
        ]
      ]

  pub AddsTo-push : AddsTo g (with_step h node to) (nodes ++ node ∷ []) to
  AddsTo-push = record { count = length-with_step h node to ∙ adds.count; steps = λ a b. (step_after a b, step_before a b) }

-- r has the steps of g from the nodes below a number, the other way round
pub record IsReverseBelow (g r : List (List ℕ)) (n : ℕ) : Type 0 where
  pub count : length r ≡ length g
  pub steps : (a b : ℕ) → Step r b a ↔ ((a < n) × Step g a b)

pub IsReverseBelow-none : (g r : List (List ℕ)) → r ≡ replicate (length g) [] → IsReverseBelow g r 0
IsReverseBelow-none g r e = record {
  count = ap length e ∙ length-replicate (length g) [];
  steps = λ a b. (λ s. let P : List (List ℕ) → Type 0 = λ h. Step h b a in absurd (no_step (length g) b a (subst P e s)), λ s. absurd (let l : a < 0 = s.0 in omega arith));
}

pub IsReverseBelow-more : (g r s : List (List ℕ)) (n : ℕ) → IsReverseBelow g r n → AddsTo r s (successors_of g n) n → IsReverseBelow g s (n + 1)
IsReverseBelow-more g r s n below adds = record {
  count = adds.count ∙ below.count;
  steps = λ a b. (
    λ t. elim ((adds.steps b a).0 t) [
      | inl old ↦ let h = (below.steps a b).0 old in let l : a < n = h.0 in (omega arith, h.1)
      | inr new ↦ let P : ℕ → Type 0 = λ m. Step g m b in let e : a ≡ n = new.0 in (omega arith, subst P (sym e) new.1)
    ],
    λ h. let l : a < n + 1 = h.0 in elim (cases_lt a n) [
      | inl before ↦ (adds.steps b a).1 (inl ((below.steps a b).1 (before, h.1)))
      | inr after ↦ let P : ℕ → Type 0 = λ m. Step g m b in let e : a ≡ n = omega arith in (adds.steps b a).1 (inr (e, subst P e h.1))
    ],
  );
}

pub IsReverseBelow-all : (g r : List (List ℕ)) (n : ℕ) → length g ≤ n → IsReverseBelow g r n → IsReverse g r
IsReverseBelow-all g r n whole below =
    (below.count, λ a b. (λ s. ((below.steps a b).0 s).1, λ s. let l = Step-from g a b s in (below.steps a b).1 (omega arith, s)))
