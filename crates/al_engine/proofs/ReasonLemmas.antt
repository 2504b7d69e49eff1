-- What marks say of the reason to check a unit.
use Rattle.std.proofs.Common.{◌≡◌, ◌∙◌, ◌++◌, ◌+◌, ◌<◌, inl, inr, ℕ, zero, suc, Bool, true, false, List, [], ◌∷◌, Option, Some, None, refl, sym, ap, subst, length, slice_get, arith}
use Rattle.std.proofs.lemmas.Bool.{cases_lt, true≢false}
use Rattle.al_base.specs.declared.unit_key.UnitKey.{UnitKey}
use Rattle.al_query.specs.Reads.{Agrees}
use Rattle.al_query.specs.declared.answer.AnswerKind.{AnswerKind}
use Rattle.al_query.specs.declared.query.Query.{Query}
use Rattle.al_query_store.specs.Marking.{MarksTell, Tells}
use Rattle.al_unit_graph.specs.Headers.{Library}
use Rattle.al_engine_refresh.specs.Builds.{text_of}
use Rattle.al_engine_refresh.specs.Stored.{Stored}
use Rattle.al_engine.specs.Reasons.{AreReasons, AreUnset, IsFirstChange, IsReason}
use Rattle.al_engine.specs.declared.reasons.Change.{Change}
use Rattle.al_engine.specs.declared.reasons.Reason.{Reason}

module _ (t : Query → AnswerKind) where
  unset_same : (e : Query × AnswerKind) (d : Bool) → Tells t e d → (d ≡ true → ⊥) → t e.0 ≡ e.1
  unset_same e true tells never = absurd (never refl)
  unset_same e false tells never = tells.0 refl

  set_differs : (e : Query × AnswerKind) (d : Bool) → Tells t e d → d ≡ true → t e.0 ≡ e.1 → ⊥
  set_differs e d tells is same = true≢false (sym is ∙ tells.1 same)

  -- the mark of an answer
  mark_of : (log : List (Query × AnswerKind)) (marks : List Bool) → MarksTell t log marks → (i : ℕ) (e : Query × AnswerKind) → slice_get log i ≡ Some e → (d : Bool) × (slice_get marks i ≡ Some d) × Tells t e d
  mark_of [] marks m i e at = absurd (cc)
  mark_of (f ∷ log) [] m i e at = absurd m
  mark_of (f ∷ log) (d ∷ marks) m zero e at = let same : f ≡ e = cc in (d, refl, subst (λ (x : Query × AnswerKind). Tells t x d) same m.0)
  mark_of (f ∷ log) (d ∷ marks) m (suc i) e at = mark_of log marks m.1 i e at

  one : (d b : Bool) → Some d ≡ Some b → d ≡ b
  one d b e = cc

  pub none_set : (log : List (Query × AnswerKind)) (marks : List Bool) → MarksTell t log marks → AreUnset marks (length log) → Agrees t log
  none_set [] marks m un = tt
  none_set (e ∷ log) [] m un = absurd m
  none_set (e ∷ log) (d ∷ marks) m un = (
    unset_same e d m.0 (λ is. un 0 (omega arith) (ap (λ (b : Bool). Some b) is)),
    none_set log marks m.1 (λ i lt is. un (suc i) (omega (arith, lt)) is),
  )

  pub first_set : (log : List (Query × AnswerKind)) (marks : List Bool) → MarksTell t log marks → (at : ℕ) → slice_get marks at ≡ Some true → AreUnset marks at → (c : Change) → slice_get log at ≡ Some (c.query, c.before) → c.now ≡ t c.query → IsFirstChange t log c
  first_set log marks m at set un c there now =
      let d = mark_of log marks m at (c.query, c.before) there in
      record {
        at = at;
        is_there = there;
        differs = set_differs (c.query, c.before) d.0 d.2 (one d.0 true (sym d.1 ∙ set));
        first = λ i e lt is. let f = mark_of log marks m i e is in unset_same e f.0 f.2 (λ k. un i lt (f.1 ∙ ap (λ (b : Bool). Some b) k));
        is_now = now;
      }

  -- a set mark is that of an answer
  pub set_there : (log : List (Query × AnswerKind)) (marks : List Bool) → MarksTell t log marks → (at : ℕ) → slice_get marks at ≡ Some true → slice_get log at ≡ None → ⊥
  set_there [] [] m at set none = cc
  set_there [] (d ∷ marks) m at set none = m
  set_there (e ∷ log) [] m at set none = m
  set_there (e ∷ log) (d ∷ marks) m zero set none = cc
  set_there (e ∷ log) (d ∷ marks) m (suc at) set none = set_there log marks m.1 at set none

pub with_reason : (t : Query → AnswerKind) (lib : Library) (at : UnitKey → Option Stored) (us : List UnitKey) (rs : List Reason) (u : UnitKey) (r : Reason) → AreReasons t lib at us rs → IsReason t (text_of lib u) (at u) r → AreReasons t lib at (us ++ u ∷ []) (rs ++ r ∷ [])
with_reason t lib at [] [] u r are is = (is, tt)
with_reason t lib at [] (x ∷ rs) u r are is = absurd are
with_reason t lib at (v ∷ us) [] u r are is = absurd are
with_reason t lib at (v ∷ us) (x ∷ rs) u r are is = (are.0, with_reason t lib at us rs u r are.1 is)

-- one mark more that isn't set
pub unset_more : (marks : List Bool) (n : ℕ) → AreUnset marks n → (slice_get marks n ≡ Some true → ⊥) → AreUnset marks (n + 1)
unset_more marks n un never = λ i lt is.
    elim (cases_lt i n) [
      | inl l ↦ un i l is
      | inr h ↦ let at : n ≡ i = omega (arith, lt, h) in never (ap (slice_get marks) at ∙ is)
    ]
