-- What holds of each task and every later one, by their places.
use Rattle.std.proofs.Common.{◌≡◌, ◌≢◌, ℕ, zero, suc, ◌<◌, ◌≤◌, List, [], ◌∷◌, Some, slice_get, sym, ap, subst, ◌∙◌, inl, inr, arith}
use Rattle.std.proofs.lemmas.Bool.{cases_lt}
use Rattle.al_tasks.specs.Task.{Task}
use Rattle.al_tasks.specs.Exclusion.{Each, EachAfter, Above, Descends}
use Rattle.al_tasks.specs.Levels.{IsAhead, Stands, level}

at_place : (P : Task → Type 0) (ts : List Task) (j : ℕ) (x : Task) → Each P ts → Stands ts j x → P x
at_place P [] j x each is = absurd (cc)
at_place P (t ∷ ts) zero x each is = let same : t ≡ x = cc in subst P same each.0
at_place P (t ∷ ts) (suc j) x each is = at_place P ts j x each.1 is

pub at_places : (R : Task → Task → Type 0) (ts : List Task) (i j : ℕ) (y x : Task) → EachAfter R ts → Stands ts i y → Stands ts j x → i < j → R y x
at_places R [] i j y x each is there less = absurd (cc)
at_places R (t ∷ ts) zero zero y x each is there less = absurd (omega arith)
at_places R (t ∷ ts) zero (suc j) y x each is there less =
    let same : t ≡ y = cc in
    subst (λ (z : Task). R z x) same (at_place (R t) ts j x each.0 there)
at_places R (t ∷ ts) (suc i) zero y x each is there less = absurd (omega arith)
at_places R (t ∷ ts) (suc i) (suc j) y x each is there less = at_places R ts i j y x each.1 is there (omega arith)

module _ (ready : List Task) (levels : EachAfter Descends ready) where
  one_task : (i j : ℕ) (y x : Task) → Stands ready i y → Stands ready j x → i ≡ j → level x ≤ level y
  one_task i j y x is there e =
      let same : Some y ≡ Some x = sym is ∙ ap (λ (k : ℕ). slice_get ready k) e ∙ there in
      let one : y ≡ x = cc in
      subst (λ (z : Task). level x ≤ level z) (sym one) (omega arith)

  pub falls : (i j : ℕ) (y x : Task) → Stands ready i y → Stands ready j x → i ≤ j → level x ≤ level y
  falls i j y x is there l = elim (cases_lt i j) [
    | inl m ↦ at_places Descends ready i j y x levels is there m
    | inr m ↦ one_task i j y x is there (omega arith)
  ]

  not_after : (i j : ℕ) (y x : Task) → Stands ready i y → Stands ready j x → level x < level y → i < j
  not_after i j y x is there higher = elim (cases_lt i j) [
    | inl m ↦ m
    | inr m ↦ let no : level y ≤ level x = falls j i x y there is m in absurd (omega arith)
  ]

  pub before : (i j : ℕ) (y x : Task) → Stands ready i y → Stands ready j x → IsAhead i y j x → i < j
  before i j y x is there (inl higher) = not_after i j y x is there higher
  before i j y x is there (inr same) = same.1

  pub ahead : (i j : ℕ) (y x : Task) → Stands ready i y → Stands ready j x → i < j → IsAhead i y j x
  ahead i j y x is there l =
      let falling : level x ≤ level y = falls i j y x is there (omega arith) in
      elim (cases_lt (level x) (level y)) [
        | inl m ↦ inl m
        | inr m ↦ let same : level x ≡ level y = omega arith in inr (same, l)
      ]

  pub above : EachAfter Above ready → (i j : ℕ) (y x : Task) → Stands ready i y → Stands ready j x → IsAhead i y j x → x.held ≢ [] → level x < y.base
  above each i j y x is there a = at_places Above ready i j y x each is there (before i j y x is there a)
