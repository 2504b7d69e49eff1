-- What nodes reach, by some number of steps.
use Rattle.std.proofs.Common.{◌≢◌, ◌↔◌, ℕ, List, refl, sym, subst, inl, inr}
use Rattle.std.specs.List.{Contains}
use Rattle.std.proofs.lemmas.Bool.{cases_eq}
use Rattle.al_base_graph.specs.Graphs.{Reaches, Step, IsReached, ReachesSome, IsReverse}
use Rattle.al_base_graph.specs.Graphs.Reaches.{here, further}

pub Reaches-trans : {g : List (List ℕ)} (a b c : ℕ) → Reaches g a b → Reaches g b c → Reaches g a c
Reaches-trans a b c r here = r
Reaches-trans a b c r (further d s t) = further d (Reaches-trans a b d r s) t

-- a way to another node has a first step
pub first_step : (g : List (List ℕ)) (a b : ℕ) → a ≢ b → Reaches g a b → (c : ℕ) × Step g a c × Reaches g c b
first_step g a b n here = absurd (n refl)
first_step g a b n (further d r s) =
    elim (cases_eq a d) [
      | inl e ↦ let P : ℕ → Type 0 = λ k. Step g k b in (b, subst P (sym e) s, here)
      | inr m ↦ let w = first_step g a d m r in (w.0, w.1, further d w.2 s)
    ]

-- what holds the starts and the successors of what it holds, has all that they reach
pub least : (g : List (List ℕ)) (a b : ℕ) (P : ℕ → Type 0) → ((c d : ℕ) → P c → Step g c d → P d) → P a → Reaches g a b → P b
least g a b P closed start here = start
least g a b P closed start (further c r s) = closed c b (least g a c P closed start r) s

pub reached_start : (g : List (List ℕ)) (starts : List ℕ) (a : ℕ) → Contains starts a → IsReached g starts a
reached_start g starts a h = (a, h, here)

pub reached_step : (g : List (List ℕ)) (starts : List ℕ) (a b : ℕ) → IsReached g starts a → Step g a b → IsReached g starts b
reached_step g starts a b r s = (r.0, r.1, further a r.2 s)

pub turned : (g r : List (List ℕ)) → ((a b : ℕ) → Step r b a → Step g a b) → (a b : ℕ) → Reaches r b a → Reaches g a b
turned g r steps a b here = here
turned g r steps a b (further d way s) = Reaches-trans a d b (further a here (steps a d s)) (turned g r steps d b way)

pub reached_by_reverse : (g r : List (List ℕ)) (goals : List ℕ) (a : ℕ) → IsReverse g r → IsReached r goals a ↔ ReachesSome g goals a
reached_by_reverse g r goals a reverse =
    (λ h. (h.0, h.1, turned g r (λ c d. (reverse.1 c d).0) a h.0 h.2), λ h. (h.0, h.1, turned r g (λ c d. (reverse.1 d c).1) h.0 a h.2))
