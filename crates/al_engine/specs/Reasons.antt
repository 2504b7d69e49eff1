-- Why a build checks a unit, or doesn't.
use Rattle.std.specs.Prelude.{ℕ, ◌≡◌, ◌<◌, Bool, true, ⊤, List, [], ◌∷◌, Option, Some, None, length, slice_get}
use Rattle.al_base.specs.declared.unit_key.UnitKey.{UnitKey}
use Rattle.al_query.specs.Reads.{Agrees}
use Rattle.al_query.specs.declared.answer.AnswerKind.{AnswerKind}
use Rattle.al_query.specs.declared.query.Query.{Query}
use Rattle.al_unit_graph.specs.Headers.{Library}
use Rattle.al_engine_refresh.specs.Builds.{text_of}
use Rattle.al_engine_refresh.specs.Stored.{Stored}
use Rattle.al_engine.specs.declared.reasons.Change.{Change}
use Rattle.al_engine.specs.declared.reasons.Reason.{Reason}
use Rattle.al_engine.specs.declared.reasons.Reason.TheVariants.{New, Text, Answered, Current}

-- none of the first marks is set
abbrev pub AreUnset : List Bool → ℕ → Type 0
AreUnset marks n = (i : ℕ) → i < n → slice_get marks i ≡ Some true → ⊥

-- the first place of a mark that is set, among the first ones
abbrev pub IsFirstSet : List Bool → ℕ → Option ℕ → Type 0
IsFirstSet marks n None = AreUnset marks n
IsFirstSet marks n (Some at) = (slice_get marks at ≡ Some true) × AreUnset marks at

-- an answer of a log, the first that a table gives otherwise, and what the table gives
pub record IsFirstChange (t : Query → AnswerKind) (log : List (Query × AnswerKind)) (c : Change) : Type 0 where
  pub at : ℕ
  pub is_there : slice_get log at ≡ Some (c.query, c.before)
  pub differs : t c.query ≡ c.before → ⊥
  pub first : (i : ℕ) (e : Query × AnswerKind) → i < at → slice_get log i ≡ Some e → t e.0 ≡ e.1
  pub is_now : c.now ≡ t c.query

-- why a unit with this source is checked under a table, if this is its entry; or that it needn't be, and how many answers its entry has
abbrev pub IsReason : (Query → AnswerKind) → List ℕ → Option Stored → Reason → Type 0
IsReason t text None New = ⊤
IsReason t text (Some e) Text = e.text ≡ text → ⊥
IsReason t text (Some e) (Answered c) = (e.text ≡ text) × IsFirstChange t e.log c
IsReason t text (Some e) (Current count) = (e.text ≡ text) × Agrees t e.log × (count ≡ length e.log)
IsReason t text _ _ = ⊥

-- a reason for each of these units, in their order, if these were their entries
abbrev pub AreReasons : (Query → AnswerKind) → Library → (UnitKey → Option Stored) → List UnitKey → List Reason → Type 0
AreReasons t lib at [] [] = ⊤
AreReasons t lib at (u ∷ us) (r ∷ rs) = IsReason t (text_of lib u) (at u) r × AreReasons t lib at us rs
AreReasons t lib at _ _ = ⊥
