-- What becomes of one unit in a build.
use Rattle.std.specs.Prelude.{◌≡◌, ℕ, Bool, true, false, List, [], ◌∷◌, ◌++◌, Option, Some, None, if◌then◌else◌}
use Rattle.al_base.specs.declared.unit_key.UnitKey.{UnitKey}
use Rattle.al_query.specs.Known.{has_unit}
use Rattle.al_query.specs.declared.answer.AnswerKind.{AnswerKind}
use Rattle.al_query.specs.declared.query.Query.{Query}
use Rattle.al_unit_graph.specs.Headers.{Header}
use Rattle.al_view.specs.Symbols.{same_unit}
use Rattle.al_base_shortage.specs.Counts.{one_more}
use Rattle.al_engine_refresh.specs.EntryLaw.{HasCurrent, IsCurrent, KeepsLaw, TextMeaning}
use Rattle.al_engine_refresh.specs.Stored.{Stored}

-- the entries with one unit's entry replaced
abbrev pub Becomes : (UnitKey → Option Stored) → UnitKey → Stored → (UnitKey → Option Stored) → Type 0
Becomes before unit e after = (u : UnitKey) → after u ≡ (if same_unit unit u then Some e else before u)

-- the entries of only these units
abbrev pub within : List UnitKey → (UnitKey → Option Stored) → UnitKey → Option Stored
within units at u = if has_unit units u then at u else None

-- the entries of a build so far, the units that it checked, and how many checks were ever made
pub record SoFar : Type 0 where
  pub at : UnitKey → Option Stored
  pub checked : List UnitKey
  pub count : ℕ

-- a unit with a source; whether all that it depends on is without errors; the current table, and the entry before
pub data Handled (meaning : TextMeaning) (header : List ℕ → Header) (unit : UnitKey) (text : List ℕ) (is_sound : Bool) (t : Query → AnswerKind) (old : Option Stored) (before after : SoFar) : Type 0 where
  -- it isn't reached
  passed : is_sound ≡ false → ((u : UnitKey) → after.at u ≡ before.at u) → after.checked ≡ before.checked → after.count ≡ before.count → Handled meaning header unit text is_sound t old before after
  -- its entry is used again
  used : is_sound ≡ true → (e : Stored) → old ≡ Some e → IsCurrent e text t → Becomes before.at unit e after.at → after.checked ≡ before.checked → after.count ≡ before.count → Handled meaning header unit text is_sound t old before after
  -- it is checked, as it has no entry that can be used again
  rechecked : is_sound ≡ true → (HasCurrent old text t → ⊥) → (e : Stored) → KeepsLaw meaning header unit e → IsCurrent e text t → Becomes before.at unit e after.at → after.checked ≡ before.checked ++ unit ∷ [] → after.count ≡ one_more before.count → Handled meaning header unit text is_sound t old before after
