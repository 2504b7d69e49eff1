-- Builds in which the sources of some units were edited, and headers only in their places.
use Rattle.std.specs.Prelude.{◌≡◌, ℕ, true, false, List, map, Option, Some, None, MatchOption}
use Rattle.std.specs.List.{Contains}
use Rattle.std.specs.Option.{is_some}
use Rattle.al_base.specs.Batch.{Key, key_of}
use Rattle.al_base.specs.declared.unit_key.UnitKey.{UnitKey}
use Rattle.al_unit_graph.specs.Dependence.{direct}
use Rattle.al_unit_graph.specs.Headers.{Header, Library}
use Rattle.al_unit_faults.specs.Reached.{is_faultless}
use Rattle.al_query.specs.Known.{has_unit}
use Rattle.al_query.specs.declared.answer.AnswerKind.{AnswerKind}
use Rattle.al_query.specs.declared.query.Query.{Query}
use Rattle.al_query_outcome.specs.Equations.{IsSetting}
use Rattle.al_engine_refresh.specs.EntryLaw.{TextMeaning}
use Rattle.al_engine_refresh.specs.Stored.{Stored}
use Rattle.al_query_store.specs.Keyed.{settled_at}
use Rattle.al_engine_refresh.specs.Moves.{Entries}
use Rattle.al_engine_refresh.specs.Builds.{text_of}
use Rattle.al_engine.specs.Rechecks.{AreAllReached, IsRechecked, setting_of}
use Rattle.al_engine.specs.declared.edited.EditedUnit.{EditedUnit}

-- the units of these edits
abbrev pub units_of : List EditedUnit → List UnitKey
units_of edits = map (λ e. e.unit) edits

-- only these units have other entries than before, and each of them has one
pub record IsRenewal (old : UnitKey → Option Stored) (units : List UnitKey) (made : UnitKey → Option Stored) : Type 0 where
  pub others : (w : UnitKey) → has_unit units w ≡ false → made w ≡ old w
  pub there : (w : UnitKey) → has_unit units w ≡ true → is_some (made w) ≡ true

-- an entry for another source than this
abbrev pub IsForAnother : Option Stored → List ℕ → Type 0
IsForAnother o text = (e : Stored) × (o ≡ Some e) × (e.text ≡ text → ⊥)

-- each of these units has an entry for another source than its present one, and everything else is as before
pub record AreEditedAlone (old new : Library) (entries : UnitKey → Option Stored) (units : List UnitKey) : Type 0 where
  pub dependences : (key : Key) → direct old key ≡ direct new key
  pub faultless : (key : Key) → is_faultless old key ≡ is_faultless new key
  pub texts : (w : UnitKey) → is_faultless new (key_of w) ≡ true → has_unit units w ≡ false → text_of old w ≡ text_of new w
  pub edited : (u : UnitKey) → has_unit units u ≡ true → IsForAnother (entries u) (text_of new u)

-- no unit that breaks no rule depends on this one directly
abbrev pub IsBaseOfNone : Library → UnitKey → Type 0
IsBaseOfNone lib u = (w : UnitKey) → is_faultless lib (key_of w) ≡ true → Contains (direct lib (key_of w)) (key_of u) → ⊥

-- the entries are those that a build of a library made, and since then only these units were edited
pub record IsRenewable (meaning : TextMeaning) (header : List ℕ → Header) (predefined : Query → AnswerKind) (new : Library) (entries : UnitKey → Option Stored) (units : List UnitKey) : Type 0 where
  pub old : Library
  pub is_setting : IsSetting (setting_of header predefined old)
  pub before : UnitKey → Option Stored
  pub checked : List UnitKey
  pub rechecked : IsRechecked meaning header (setting_of header predefined old) before entries checked
  pub alone : AreEditedAlone old new entries units

-- the edits since the last build: the entries are those of that build, which reached each unit that has one; and no other unit
-- depends directly on one that isn't marked as a base
pub record AreEdits (meaning : TextMeaning) (header : List ℕ → Header) (predefined : Query → AnswerKind) (lib : Library) (store : Entries) (edits : List EditedUnit) : Type 0 where
  pub reached : AreAllReached store
  pub renewable : IsRenewable meaning header predefined lib (settled_at store) (units_of edits)
  pub alone : (e : EditedUnit) → Contains edits e → e.is_base ≡ false → IsBaseOfNone lib e.unit
