-- What becomes of a unit that is turned, among units that are done.
use Rattle.std.proofs.Common.{◌≡◌, ◌++◌, ◌||◌, ℕ, Bool, true, false, List, [], ◌∷◌, Option, Some, None, refl, sym, ◌∙◌, ap, subst, if◌then◌else◌}
use Rattle.std.proofs.lemmas.List.Folds.{list_any-append}
use Rattle.al_base.specs.declared.unit_key.UnitKey.{UnitKey}
use Rattle.al_view.specs.Symbols.{same_unit}
use Rattle.al_view.proofs.SymbolLemmas.{same_unit-one, same_unit-self}
use Rattle.al_query.specs.Known.{has_unit}
use Rattle.al_query.specs.declared.answer.AnswerKind.{AnswerKind}
use Rattle.al_query.specs.declared.query.Query.{Query}
use Rattle.al_unit_graph.specs.Headers.{Header}
use Rattle.al_base_shortage.specs.Counts.{one_more}
use Rattle.al_query_store.specs.declared.slots.Held.{Held}
use Rattle.al_query_store.specs.Changes.{with_made}
use Rattle.al_query_store.specs.Keyed.{State, base_state, entry_of, first_of, now_at, settled_at, state, with_reached}
use Rattle.al_engine_refresh.specs.EntryLaw.{HasCurrent, IsCurrent, KeepsLaw, TextMeaning}
use Rattle.al_engine_refresh.specs.Stored.{Stored, log_of}
use Rattle.al_engine_refresh.specs.Moves.{Entries}
use Rattle.al_engine_refresh.specs.Handling.{Becomes, Handled, passed, rechecked, used, within}
use Rattle.al_engine_refresh.specs.Moving.{Turned}
use Rattle.al_engine_refresh.proofs.Following.{now_of, now-same, turned-unit}

-- the entries of one unit more
within-more : (before : List UnitKey) (unit : UnitKey) (at new : UnitKey → Option Stored) (o : Option Stored) → new unit ≡ o → ((u : UnitKey) → same_unit unit u ≡ false → new u ≡ at u) → (u : UnitKey) → within (before ++ unit ∷ []) new u ≡ (if same_unit unit u then o else within before at u)
within-more before unit at new o here others u = by (same_unit unit u) refl
  where
    last : (b : Bool) → same_unit u unit ≡ b → has_unit (before ++ unit ∷ []) u ≡ (has_unit before u || (b || false))
    last b e = list_any-append (same_unit u) before (unit ∷ []) ∙ ap (λ (x : Bool). has_unit before u || (x || false)) e

    or_true : (b : Bool) → (b || (true || false)) ≡ true
    or_true true = refl
    or_true false = refl

    or_false : (b : Bool) → (b || (false || false)) ≡ b
    or_false true = refl
    or_false false = refl

    kept : (b : Bool) → new u ≡ at u → (if b then new u else None) ≡ (if b then at u else None)
    kept true e = e
    kept false e = refl

    by : (b : Bool) → same_unit unit u ≡ b → within (before ++ unit ∷ []) new u ≡ (if b then o else within before at u)
    by true e =
        ap (λ (b : Bool). if b then new u else None) (last true (turned-unit unit u true e) ∙ or_true (has_unit before u))
        ∙ subst (λ (v : UnitKey). new v ≡ o) (same_unit-one unit u e) here
    by false e =
        ap (λ (b : Bool). if b then new u else None) (last false (turned-unit unit u false e) ∙ or_false (has_unit before u))
        ∙ kept (has_unit before u) (others u e)

module _ (pre : Query → AnswerKind) (f : State Stored → State Stored) (unit : UnitKey) (old new : Entries) (turned : Turned pre f unit old new) where
  pub others-now : (u : UnitKey) → same_unit unit u ≡ false → now_at new u ≡ now_at old u
  others-now u e = now-same (state new u) (if same_unit unit u then f (state old u) else state old u) (turned.states u) ∙ ap (λ (b : Bool). now_of (if b then f (state old u) else state old u)) e

  -- all others are the same but for marks of now
  pub others-turned : (u : UnitKey) → same_unit unit u ≡ false → base_state (state new u) ≡ base_state (state old u)
  others-turned u e = turned.states u ∙ ap (λ (b : Bool). base_state (if b then f (state old u) else state old u)) e

  pub here-now : now_at new unit ≡ now_of (f (state old unit))
  here-now = now-same (state new unit) (if same_unit unit unit then f (state old unit) else state old unit) (turned.states unit) ∙ ap (λ (b : Bool). now_of (if b then f (state old unit) else state old unit)) (same_unit-self unit)

  pub becomes-turned : (before : List UnitKey) (e : Stored) → now_of (f (state old unit)) ≡ Some e → Becomes (within before (now_at old)) unit e (within (before ++ unit ∷ []) (now_at new))
  becomes-turned before e is = within-more before unit (now_at old) (now_at new) (Some e) (here-now ∙ is) others-now

  pub passes-turned : (before : List UnitKey) → has_unit before unit ≡ false → now_of (f (state old unit)) ≡ None → (u : UnitKey) → within (before ++ unit ∷ []) (now_at new) u ≡ within before (now_at old) u
  passes-turned before apart is u = within-more before unit (now_at old) (now_at new) None (here-now ∙ is) others-now u ∙ by (same_unit unit u) refl
    where
      by : (b : Bool) → same_unit unit u ≡ b → (if b then None else within before (now_at old) u) ≡ within before (now_at old) u
      by false e = refl
      by true e = sym (ap (λ (b : Bool). if b then now_at old u else None) (subst (λ (v : UnitKey). has_unit before v ≡ false) (same_unit-one unit u e) apart))

module _ (meaning : TextMeaning) (header : List ℕ → Header) (pre : Query → AnswerKind) (unit : UnitKey) (text : List ℕ) (sound : Bool) (t : Query → AnswerKind) (old new : Entries) (before checked : List UnitKey) (count : ℕ) (apart : has_unit before unit ≡ false) where
  abbrev Outcome_is : List UnitKey → ℕ → Type 0
  Outcome_is more after = Handled meaning header unit text sound t (settled_at old unit) (record { at = within before (now_at old); checked = checked; count = count }) (record { at = within (before ++ unit ∷ []) (now_at new); checked = more; count = after })

  -- it isn't reached
  pub pass-handled : sound ≡ false → Turned pre (with_reached false) unit old new → Outcome_is checked count
  pass-handled is turned = passed is (passes-turned pre (with_reached false) unit old new turned before apart refl) refl refl

  -- its entry is used again
  pub use-handled : sound ≡ true → (state old unit).made ≡ None → (e : Stored) → settled_at old unit ≡ Some e → IsCurrent e text t → Turned pre (with_reached true) unit old new → Outcome_is checked count
  use-handled is none e held current turned =
      used is e held current (becomes-turned pre (with_reached true) unit old new turned before e (ap (λ (o : Option (Held Stored)). first_of (entry_of o) (settled_at old unit)) none ∙ held)) refl refl

  -- it is checked
  pub check-handled : sound ≡ true → (HasCurrent (settled_at old unit) text t → ⊥) → (e : Stored) → KeepsLaw meaning header unit e → IsCurrent e text t → Turned pre (with_made log_of e) unit old new → (more : List UnitKey) (after : ℕ) → more ≡ checked ++ unit ∷ [] → after ≡ one_more count → Outcome_is more after
  check-handled is not e keeps current turned more after added counted =
      rechecked is not e keeps current (becomes-turned pre (with_made log_of e) unit old new turned before e refl) added counted
