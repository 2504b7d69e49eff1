-- The ties that lines name.
use Rattle.std.proofs.Common.{◌≡◌, ◌⊎◌, ℕ, ◌+◌, ◌<◌, ◌≤◌, List, [], ◌∷◌, ◌++◌, Option, Some, None, length, get_or, replicate, refl, sym, ap, ◌∙◌, subst, inl, inr, arith}
use Rattle.std.specs.List.{All, Contains, HoldsAt, fold}
use Rattle.std.specs.Option.{MatchOption}
use Rattle.std.proofs.lemmas.Bool.{cases_eq, cases_lt, cases_order}
use Rattle.std.proofs.lemmas.List.{get_or_append_left, get_or_push, length-replicate, get_or_default}
use Rattle.std.proofs.lemmas.List.Elements.{Contains-append_left, Contains-push, Contains-push_cases, All-head, All-tail}
use Rattle.al_base_graph.proofs.Members.{nowhere, first, later}
use Rattle.al_base_graph.proofs.StepLemmas.{Step-with_step, length-with_step, no_step}
use Rattle.al_base_graph.specs.Graphs.{Step, with_step}
use Rattle.al_base_graph.specs.Orders.{IsCycle, next_in}
use Rattle.al_base_graph.specs.Ties.{rank_of, IsUpto, IsBetween, IsLine, graph_from}
use Rattle.al_base_graph.specs.declared.edge.Edge.{Edge}
use Rattle.al_base_graph.specs.declared.edge.Reason.TheVariants.{Depends}
use Rattle.al_base_graph.proofs.LawLemmas.{cycle_steps}

pub upto_itself : (t : Edge) → IsUpto t t
upto_itself t = inr (refl, inr (refl, omega arith))

pub upto_or : (s t : Edge) → (IsUpto s t → ⊥) → IsUpto t s
upto_or s t not =
    elim (cases_order (rank_of s.reason) (rank_of t.reason)) [
      | inl e ↦ elim (cases_order s.x t.x) [
        | inl f ↦ elim (cases_lt s.y t.y) [
          | inl l ↦ absurd (not (inr (e, inr (f, omega arith))))
          | inr l ↦ inr (sym e, inr (sym f, l))
        ]
        | inr r ↦ elim r [ inl l ↦ absurd (not (inr (e, inl l))) | inr l ↦ inr (sym e, inl l) ]
      ]
      | inr r ↦ elim r [ inl l ↦ absurd (not (inl l)) | inr l ↦ inl l ]
    ]

pub upto_trans : (r s t : Edge) → IsUpto r s → IsUpto s t → IsUpto r t
upto_trans r s t (inl l) (inl m) = inl (omega arith)
upto_trans r s t (inl l) (inr m) = let e = m.0 in inl (omega arith)
upto_trans r s t (inr l) (inl m) = let e = l.0 in inl (omega arith)
upto_trans r s t (inr l) (inr m) =
    let e = l.0 in
    let f = m.0 in
    inr (
      e ∙ f,
      elim l.1 [
        | inl a ↦ elim m.1 [ inl b ↦ inl (omega arith) | inr b ↦ let g = b.0 in inl (omega arith) ]
        | inr a ↦ let h = a.0 in let u = a.1 in elim m.1 [ inl b ↦ inl (omega arith) | inr b ↦ let g = b.0 in let v = b.1 in inr (h ∙ g, omega arith) ]
      ],
    )

-- what is read past the end of a list of ties
abbrev pub zero_tie : Edge
zero_tie = record { after = 0; before = 0; reason = Depends; x = 0; y = 0 }

-- what is found so far
abbrev pub IsSoFar : List Edge → ℕ → ℕ → Option Edge → Type 0
IsSoFar edges a b least = MatchOption least ((t : Edge) → Contains edges t → IsBetween a b t → ⊥) (IsLine edges a b)

pub so_far_other : (edges : List Edge) (a b : ℕ) (t : Edge) (o : Option Edge) → (IsBetween a b t → ⊥) → IsSoFar edges a b o → IsSoFar (edges ++ t ∷ []) a b o
so_far_other edges a b t None not none = λ s h between.
    elim (Contains-push_cases edges t s h) [
      | inl old ↦ none s old between
      | inr e ↦ let P : Edge → Type 0 = λ u. IsBetween a b u in not (subst P (sym e) between)
    ]
so_far_other edges a b t (Some r) not line = (
  Contains-append_left edges (t ∷ []) r line.0,
  line.1,
  λ s h between. elim (Contains-push_cases edges t s h) [
    | inl old ↦ line.2 s old between
    | inr e ↦ let P : Edge → Type 0 = λ u. IsBetween a b u in absurd (not (subst P (sym e) between))
  ],
)

abbrev pub IsFirstOf : Option Edge → Edge → Edge → Type 0
IsFirstOf found edge r = MatchOption found (r ≡ edge) (λ f. ((r ≡ f) × IsUpto f edge) ⊎ ((r ≡ edge) × (IsUpto f edge → ⊥)))

pub so_far_more : (edges : List Edge) (a b : ℕ) (t : Edge) (o : Option Edge) (r : Edge) → IsBetween a b t → IsSoFar edges a b o → IsFirstOf o t r → IsLine (edges ++ t ∷ []) a b r
so_far_more edges a b t None r between none is =
    let P : Edge → Type 0 = λ u. IsLine (edges ++ t ∷ []) a b u in
    subst P (sym is) (
      Contains-push edges t,
      between,
      λ s h there. elim (Contains-push_cases edges t s h) [
        | inl old ↦ absurd (none s old there)
        | inr e ↦ let Q : Edge → Type 0 = λ u. IsUpto t u in subst Q e (upto_itself t)
      ],
    )
so_far_more edges a b t (Some f) r between line (inl is) =
    let P : Edge → Type 0 = λ u. IsLine (edges ++ t ∷ []) a b u in
    subst P (sym is.0) (
      Contains-append_left edges (t ∷ []) f line.0,
      line.1,
      λ s h there. elim (Contains-push_cases edges t s h) [
        | inl old ↦ line.2 s old there
        | inr e ↦ let Q : Edge → Type 0 = λ u. IsUpto f u in subst Q e is.1
      ],
    )
so_far_more edges a b t (Some f) r between line (inr is) =
    let P : Edge → Type 0 = λ u. IsLine (edges ++ t ∷ []) a b u in
    let less = upto_or f t is.1 in
    subst P (sym is.0) (
      Contains-push edges t,
      between,
      λ s h there. elim (Contains-push_cases edges t s h) [
        | inl old ↦ upto_trans t f s less (line.2 s old there)
        | inr e ↦ let Q : Edge → Type 0 = λ u. IsUpto t u in subst Q e (upto_itself t)
      ],
    )

-- each step of the graph is a tie
tied : (edges : List Edge) (g : List (List ℕ)) (n : ℕ) → length g ≡ n → All (λ t. (t.after < n) × (t.before < n)) edges → (a b : ℕ) → Step (fold (λ h t. with_step h t.after t.before) g edges) a b → Step g a b ⊎ ((t : Edge) × Contains edges t × IsBetween a b t)
tied [] g n size all a b s = inl s
tied (t ∷ ts) g n size all a b s =
    let in' = (All-head (λ u. (u.after < n) × (u.before < n)) t ts all).0 in
    elim (tied ts (with_step g t.after t.before) n (length-with_step g t.after t.before ∙ size) (All-tail (λ u. (u.after < n) × (u.before < n)) t ts all) a b s) [
      | inl h ↦ elim (Step-with_step g t.after t.before (omega arith) a b h) [
        | inl old ↦ inl old
        | inr e ↦ inr (t, first t ts, (sym e.0, sym e.1))
      ]
      | inr r ↦ inr (r.0, later t ts r.0 r.1, r.2)
    ]

pub step_tied : (count : ℕ) (edges : List Edge) → All (λ t. (t.after < count) × (t.before < count)) edges → (a b : ℕ) → Step (graph_from count edges) a b → (t : Edge) × Contains edges t × IsBetween a b t
step_tied count edges all a b s =
    elim (tied edges (replicate count []) count (length-replicate {A = List ℕ} count []) all a b s) [
      | inl none ↦ absurd (no_step count a b none)
      | inr r ↦ r
    ]

pub cycle_tied : (count : ℕ) (edges : List Edge) → All (λ t. (t.after < count) × (t.before < count)) edges → (cycle : List ℕ) → IsCycle (graph_from count edges) cycle → (i : ℕ) → i < length cycle → (t : Edge) × Contains edges t × IsBetween (get_or cycle i 0) (next_in cycle i) t
cycle_tied count edges all cycle is i l =
    step_tied count edges all (get_or cycle i 0) (next_in cycle i) (cycle_steps (graph_from count edges) is.front cycle is.some is.walk i l).0

-- one more line
pub lines_more : (edges lines : List Edge) (cycle : List ℕ) (place : ℕ) (t : Edge) → length lines ≡ place → IsLine edges (get_or cycle place 0) (next_in cycle place) t
    → ((i : ℕ) → i < place → HoldsAt (IsLine edges (get_or cycle i 0) (next_in cycle i)) lines i) → (i : ℕ) → i < place + 1 → HoldsAt (IsLine edges (get_or cycle i 0) (next_in cycle i)) (lines ++ t ∷ []) i
lines_more edges lines cycle place t size line so_far i l d =
    elim (cases_lt i place) [
      | inl before ↦
          let P : Edge → Type 0 = λ u. IsLine edges (get_or cycle i 0) (next_in cycle i) u in
          subst P (sym (get_or_append_left lines (t ∷ []) d i (omega arith))) (so_far i before d)
      | inr after ↦
          let e : place ≡ i = omega arith in
          let P : Edge → Type 0 = λ u. IsLine edges (get_or cycle i 0) (next_in cycle i) u in
          let Q : ℕ → Type 0 = λ k. IsLine edges (get_or cycle k 0) (next_in cycle k) t in
          subst P (sym (get_or_push lines t d i (size ∙ e))) (subst Q e line)
    ]
