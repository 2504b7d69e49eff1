-- New entries of the only units that were edited since the last build, and the entries that the next build makes then.
use Rattle.std.specs.Prelude.{◌≡◌, ◌↔◌, ℕ, true, false, List, map, Option, Some}
use Rattle.std.specs.List.{Contains}
use Rattle.std.specs.List.Sorted.{IsStrictlySortedBy}
use Rattle.al_base.specs.Batch.{key_of}
use Rattle.al_base.specs.declared.unit_key.UnitKey.{UnitKey}
use Rattle.al_unit_graph.specs.Headers.{Header, Library}
use Rattle.al_unit_graph.specs.Orders.{key_cmp}
use Rattle.al_unit_faults.specs.Reached.{is_faultless}
use Rattle.al_query.specs.Known.{has_unit}
use Rattle.al_query.specs.Reads.{Agrees}
use Rattle.al_query.specs.declared.answer.AnswerKind.{AnswerKind}
use Rattle.al_query.specs.declared.query.Query.{Query}
use Rattle.al_engine_refresh.specs.EntryLaw.{IsCurrent, KeepsLaw, TextMeaning}
use Rattle.al_engine_refresh.specs.Stored.{Stored}
use Rattle.al_engine_refresh.specs.Builds.{has_sound_dependences, present, results_of, text_of}
use Rattle.al_engine.specs.RecheckEdits.{IsRenewable, IsRenewal}
use Rattle.al_engine.specs.Rechecks.{HasOrder, IsRechecked, setting_of}

-- Each of these units has a new entry for its present source, with the answers that there are then; all other entries are as
-- before. No other unit is reached by it: the log of each other entry has the answers that there are then, and each unit depends
-- on units that are as sound as before.
pub record AreRenewed (meaning : TextMeaning) (header : List ℕ → Header) (predefined : Query → AnswerKind) (lib : Library) (entries : UnitKey → Option Stored) (units : List UnitKey) (made : UnitKey → Option Stored) : Type 0 where
  pub renewal : IsRenewal entries units made
  pub law : (u : UnitKey) (e : Stored) → has_unit units u ≡ true → made u ≡ Some e → KeepsLaw meaning header u e
  pub current : (u : UnitKey) (e : Stored) → has_unit units u ≡ true → made u ≡ Some e → IsCurrent e (text_of lib u) (present predefined (results_of made))
  pub unread : (w : UnitKey) (e : Stored) → has_unit units w ≡ false → entries w ≡ Some e → Agrees (present predefined (results_of made)) e.log
  pub reached : (w : UnitKey) → is_faultless lib (key_of w) ≡ true → has_sound_dependences lib (results_of made) w ≡ has_sound_dependences lib (results_of entries) w

-- these are the units, by their keys, each once
abbrev pub AreListed : List UnitKey → List UnitKey → Type 0
AreListed units listed = ((u : UnitKey) → Contains listed u ↔ (has_unit units u ≡ true)) × IsStrictlySortedBy key_cmp (map key_of listed)

-- then a build makes these entries, and checks these units
abbrev pub RenewalsAreRechecked : Type 0
RenewalsAreRechecked =
    (meaning : TextMeaning) (header : List ℕ → Header) (predefined : Query → AnswerKind) (lib : Library) (entries made : UnitKey → Option Stored) (order units listed : List UnitKey)
    → HasOrder header predefined lib order → IsRenewable meaning header predefined lib entries units → AreRenewed meaning header predefined lib entries units made
    → AreListed units listed → IsRechecked meaning header (setting_of header predefined lib) entries made listed
