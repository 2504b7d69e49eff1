-- A unit that is changed and compared is turned.
use mathlib.Core.Bool.{beq}
use Rattle.std.proofs.Common.{◌≡◌, ◌||◌, ◌∙◌, sym, ap, refl, Bool, true, false, IsTrue, Result, Ok, Err, OnOk, Option, Some, None, is_some, unwrap_or, if◌then◌else◌}
use Rattle.std.specs.Option.{option_map}
use Rattle.std.proofs.lemmas.Bool.{true≢false}
use Rattle.al_base.specs.declared.unit_key.UnitKey.{UnitKey}
use Rattle.al_view.specs.Symbols.{same_unit}
use Rattle.al_query.specs.declared.answer.AnswerKind.{AnswerKind}
use Rattle.al_query.specs.declared.query.Query.{Query}
use Rattle.al_query_store.specs.Stored.{base}
use Rattle.al_query_store.specs.declared.slots.Held.{Held}
use Rattle.al_query_store.specs.Changes.{ComparesUnit}
use Rattle.al_query_store.specs.Units.{at_unit}
use Rattle.al_query_store.specs.Keyed.{Changes, State, base_state, differ, is_moved, nothing, now_at, state}
use Rattle.al_engine_refresh.specs.Stored.{Stored, log_of}
use Rattle.al_engine_refresh.specs.Moves.{Entries, IsLeft, left_by_last}
use Rattle.al_engine_refresh.specs.Builds.{present, results_of}
use Rattle.al_engine_refresh.specs.Moving.{Turned}
use Rattle.al_engine_refresh.proofs.Following.{marks-follow}

module _ (pre : Query → AnswerKind) (f : State Stored → State Stored) (unit : UnitKey) (old mid new : Entries) (changes : Changes f unit old mid) (keeps : (s : State Stored) → (f s).settled ≡ s.settled) where
  pub turned-by : ComparesUnit log_of (present pre (λ u. results_of (now_at mid) unit)) unit mid new → Turned pre f unit old new
  turned-by compares = record {
    states = λ u. compares.base u ∙ ap base_state (changes u);
    marks = marks-follow pre f unit old mid new changes keeps compares;
  }

  -- what the last build left is as it was, if only what was made or is reached is changed
  pub left-by : ((s : State Stored) → left_by_last (f s) ≡ left_by_last s) → ((u : UnitKey) → base_state (state new u) ≡ base_state (state mid u)) → IsLeft old new
  left-by stays based u = sym (twice (state new u)) ∙ ap left_by_last (based u) ∙ twice (state mid u) ∙ ap left_by_last (changes u) ∙ by (same_unit unit u)
    where
      option_twice : (o : Option (Held Stored)) → option_map base (option_map base o) ≡ option_map base o
      option_twice None = refl
      option_twice (Some h) = refl

      with_settled : State Stored → Option (Held Stored) → State Stored
      with_settled s o = record { settled = o; made = None; was_reached = s.was_reached; is_reached = s.was_reached; leaves = false }

      twice : (s : State Stored) → left_by_last (base_state s) ≡ left_by_last s
      twice s = ap (with_settled s) (option_twice s.settled)

      by : (b : Bool) → left_by_last (if b then f (state old u) else state old u) ≡ left_by_last (state old u)
      by true = stays (state old u)
      by false = refl

-- two properties that hold if a call succeeds
pub on_ok_two : {A E : Type 0} (r : Result A E) (P Q R : Type 0) → (P → Q → R) → OnOk r P → OnOk r Q → OnOk r R
on_ok_two (Ok a) P Q R f p q = f p q
on_ok_two (Err e) P Q R f p q = tt

-- two tests, each by itself
pub beq-apart : (a b : Bool) → beq a b ≡ false → a ≡ b → ⊥
beq-apart true true h e = true≢false h
beq-apart true false h e = true≢false e
beq-apart false true h e = true≢false (sym e)
beq-apart false false h e = true≢false h

-- a unit that hasn't moved moves if whether it is reached changes
pub reached-moves : (m l w r b : Bool) → (m || l || differ w r) ≡ false → (r ≡ b → ⊥) → (m || l || differ w b) ≡ true
reached-moves true l w r b h d = absurd (true≢false h)
reached-moves false true w r b h d = absurd (true≢false h)
reached-moves false false true true true h d = absurd (d refl)
reached-moves false false true true false h d = refl
reached-moves false false true false b h d = absurd (true≢false h)
reached-moves false false false true b h d = absurd (true≢false h)
reached-moves false false false false true h d = refl
reached-moves false false false false false h d = absurd (d refl)

pub leaves-moves : (m : Bool) (w r : Bool) → (m || true || differ w r) ≡ true
leaves-moves true w r = refl
leaves-moves false w r = refl

module _ (store : Entries) (u : UnitKey) where
  -- a unit that has an entry, or is reached, is one of which there is something
  pub there-settled : is_some (state store u).settled ≡ true → is_some (at_unit store u) ≡ true
  there-settled h = by (at_unit store u) refl
    where
      by : (o : Option (State Stored)) → at_unit store u ≡ o → is_some o ≡ true
      by (Some s) e = refl
      by None e = absurd (true≢false (sym h ∙ ap (λ (o : Option (State Stored)). is_some (unwrap_or o nothing).settled) e))

  pub there-reached : (state store u).is_reached ≡ true → is_some (at_unit store u) ≡ true
  there-reached h = by (at_unit store u) refl
    where
      by : (o : Option (State Stored)) → at_unit store u ≡ o → is_some o ≡ true
      by (Some s) e = refl
      by None e = absurd (true≢false (sym h ∙ ap (λ (o : Option (State Stored)). (unwrap_or o nothing).is_reached) e))

  -- of a unit that is reached another way there is something
  pub there-turned : (b : Bool) → (IsTrue b → is_some (state store u).settled ≡ true) → ((state store u).is_reached ≡ b → ⊥) → is_some (at_unit store u) ≡ true
  there-turned true settled other = there-settled (settled refl)
  there-turned false settled other = by (state store u).is_reached refl
    where
      by : (r : Bool) → (state store u).is_reached ≡ r → is_some (at_unit store u) ≡ true
      by true e = there-reached e
      by false e = absurd (other e)

-- of a unit that hasn't moved nothing was made
pub none-made : (s : State Stored) → is_moved s ≡ false → s.made ≡ None
none-made s h = by s.made refl
  where
    by : (o : Option (Held Stored)) → s.made ≡ o → o ≡ None
    by None e = refl
    by (Some x) e = absurd (true≢false (sym (ap (λ (o : Option (Held Stored)). is_some o || s.leaves || differ s.was_reached s.is_reached) e) ∙ h))
