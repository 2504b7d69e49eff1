-- Cycles of graphs with the same steps are one, and so are their lines.
use Rattle.std.proofs.Common.{◌≡◌, ◌↔◌, ◌⊎◌, inl, inr, ℕ, ◌+◌, ◌<◌, ◌≤◌, Bool, IsTrue, List, length, get_or, refl, sym, ap, subst, ◌∙◌, arith}
use Rattle.std.specs.List.{Contains, HoldsAt}
use Rattle.std.proofs.lemmas.List.{same_lists}
use Rattle.al_base_graph.specs.Graphs.{Step}
use Rattle.al_base_graph.specs.Orders.{EachHasOneBefore, IsCycle, IsLeast, IsStuck, IsStuckWalk, next_in}
use Rattle.al_base_graph.specs.Ties.{AreLines, IsBetween, IsLine, IsUpto, rank_of}
use Rattle.al_base_graph.specs.declared.edge.Reason.{Reason}
use Rattle.al_base_graph.specs.declared.edge.Reason.TheVariants.{Depends, Elaborate, ElaborateAll}
use Rattle.al_base_graph.specs.declared.edge.Edge.{Edge}

least_same : (P Q : ℕ → Type 0) → ((a : ℕ) → P a ↔ Q a) → (a : ℕ) → IsLeast P a → IsLeast Q a
least_same P Q same a is = ((same a).0 is.0, λ b q. is.1 b ((same b).1 q))

module _ (g h : List (List ℕ)) (same : (a b : ℕ) → Step g a b ↔ Step h a b) where
  stuck_into : (a : ℕ) → IsStuck g a → IsStuck h a
  stuck_into a (held, each, there) = (held, (λ b is. let e = each b is in (e.0, (same b e.0).0 e.1, e.2)), there)

module _ (g h : List (List ℕ)) (same : (a b : ℕ) → Step g a b ↔ Step h a b) where
  turned : (a b : ℕ) → Step h a b ↔ Step g a b
  turned a b = ((same a b).1, (same a b).0)

  stuck_same : (a : ℕ) → IsStuck g a ↔ IsStuck h a
  stuck_same a = (stuck_into g h same a, stuck_into h g turned a)

  next_same : (x b : ℕ) → (Step g x b × IsStuck g b) ↔ (Step h x b × IsStuck h b)
  next_same x b = ((λ s. ((same x b).0 s.0, (stuck_same b).0 s.1)), (λ s. ((same x b).1 s.0, (stuck_same b).1 s.1)))

  walk_same : (walk : List ℕ) → IsStuckWalk g walk → IsStuckWalk h walk
  walk_same walk is = record {
    begins = least_same (IsStuck g) (IsStuck h) stuck_same (get_or walk 0 0) is.begins;
    goes_on = λ i l. least_same (λ b. Step g (get_or walk i 0) b × IsStuck g b) (λ b. Step h (get_or walk i 0) b × IsStuck h b) (next_same (get_or walk i 0)) (get_or walk (i + 1) 0) (is.goes_on i l);
  }

  -- a cycle has these steps
  pub cycle_same : (cycle : List ℕ) → IsCycle g cycle → IsCycle h cycle
  cycle_same cycle is = record { front = is.front; some = is.some; distinct = is.distinct; walk = walk_same _ is.walk }

rank_exact : (a b : Reason) → rank_of a ≡ rank_of b → a ≡ b
rank_exact Depends Depends is = refl
rank_exact Elaborate Elaborate is = refl
rank_exact ElaborateAll ElaborateAll is = refl
rank_exact Depends Elaborate is = absurd (omega (arith, is))
rank_exact Depends ElaborateAll is = absurd (omega (arith, is))
rank_exact Elaborate Depends is = absurd (omega (arith, is))
rank_exact Elaborate ElaborateAll is = absurd (omega (arith, is))
rank_exact ElaborateAll Depends is = absurd (omega (arith, is))
rank_exact ElaborateAll Elaborate is = absurd (omega (arith, is))

tie_of : ℕ × ℕ × Reason × ℕ × ℕ → Edge
tie_of p = record { after = p.0; before = p.1; reason = p.2; x = p.3; y = p.4 }

-- no more and no less than another one by reason and places
upto_both : (s t : Edge) → IsUpto s t → IsUpto t s → (s.reason ≡ t.reason) × (s.x ≡ t.x) × (s.y ≡ t.y)
upto_both s t one two =
    let same : (rank_of s.reason ≡ rank_of t.reason) × (s.x ≡ t.x) × (s.y ≡ t.y) = elim one [
      | inl less ↦ elim two [ inl more ↦ absurd (omega (arith, less, more)) | inr eq ↦ absurd (omega (arith, less, eq.0)) ]
      | inr eq ↦ elim two [
        | inl more ↦ absurd (omega (arith, eq.0, more))
        | inr eq' ↦ elim eq.1 [
          | inl l ↦ elim eq'.1 [ inl m ↦ absurd (omega (arith, l, m)) | inr m ↦ absurd (omega (arith, l, m.0)) ]
          | inr l ↦ elim eq'.1 [ inl m ↦ absurd (omega (arith, l.0, m)) | inr m ↦ (eq.0, l.0, omega (arith, l.1, m.1)) ]
        ]
      ]
    ] in
    (rank_exact s.reason t.reason same.0, same.1, same.2)

-- a line names one tie
pub one_line : (edges others : List Edge) → ((t : Edge) → Contains edges t ↔ Contains others t) → (a b : ℕ) (s t : Edge) → IsLine edges a b s → IsLine others a b t → s ≡ t
unfolding tie_of
one_line edges others same a b s t one two =
    let r = upto_both s t (one.2 t ((same t).1 two.0) two.1) (two.2 s ((same s).0 one.0) one.1) in
    let after : s.after ≡ t.after = one.1.0 ∙ sym two.1.0 in
    let before : s.before ≡ t.before = one.1.1 ∙ sym two.1.1 in
    let parts : (s.after, s.before, s.reason, s.x, s.y) ≡ (t.after, t.before, t.reason, t.x, t.y) = cc in
    ap tie_of parts

-- a cycle has one list of lines
pub one_list : (edges others : List Edge) → ((t : Edge) → Contains edges t ↔ Contains others t) → (cycle : List ℕ) (xs ys : List Edge) → AreLines edges cycle xs → AreLines others cycle ys → xs ≡ ys
one_list edges others same cycle xs ys one two =
    same_lists xs ys (one.count ∙ sym two.count) (λ k d l.
    let within : k < length cycle = omega (arith, l, one.count) in
    one_line edges others same (get_or cycle k 0) (next_in cycle k) (get_or xs k d) (get_or ys k d) (one.each k within d) (two.each k within d))
