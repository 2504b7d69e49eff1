-- The effect of a build on the entries of a library's units.
use Rattle.std.specs.Prelude.{ℕ, ◌≡◌, ◌≤◌, ◌&&◌, ◌||◌, Bool, true, not, List, Option, is_some}
use Rattle.al_base.specs.declared.unit_key.UnitKey.{UnitKey}
use Rattle.al_unit_graph.specs.Headers.{Header, Library}
use Rattle.al_query.specs.declared.answer.AnswerKind.{AnswerKind}
use Rattle.al_query.specs.declared.query.Query.{Query}
use Rattle.al_query.specs.Known.{has_unit}
use Rattle.al_query_store.specs.Changes.{HasAnswers}
use Rattle.al_query_store.specs.Keyed.{before_at, differ, settled_at, state}
use Rattle.al_engine_refresh.specs.Moves.{Entries}
use Rattle.al_engine_refresh.specs.Builds.{present, raised, results_of}
use Rattle.al_engine_refresh.specs.EntryLaw.{TextMeaning}
use Rattle.al_engine_refresh.specs.Stored.{Stored, log_of}
use Rattle.al_engine_refresh.specs.Staying.{is_there, staying}
use Rattle.al_engine.specs.Rechecks.{AreReady, IsRechecked, setting_of}
use Rattle.al_engine.specs.Batches.{IsBatch, IsCompiled}
use Rattle.al_engine.specs.Earlier.{KeepsEarlier}
use Rattle.al_engine.specs.Reasons.{AreReasons}
use Rattle.al_engine.specs.declared.rebuilding.Rebuilt.{Rebuilt}

-- the units that it checked and the entries that it made over those of before; the result of compiling for the main unit with the
-- outcomes in these entries; which entries there are then; and what is kept for the next build
pub record IsRebuilt (meaning : TextMeaning) (header : List ℕ → Header) (predefined : Query → AnswerKind) (lib : Library) (main : List ℕ) (old new : UnitKey → Option Stored) (rebuilt : Rebuilt) : Type 0 where
  pub made : UnitKey → Option Stored
  pub rechecked : IsRechecked meaning header (setting_of header predefined lib) old made rebuilt.checked
  pub is_batch : IsBatch lib (results_of made) main rebuilt.compiled
  pub entries : (u : UnitKey) → new u ≡ staying lib old made u
  -- the program that is kept behind a build that found errors
  pub earlier : KeepsEarlier lib (results_of made) rebuilt.earlier

-- a build gives what compiling from nothing gives, whatever entries there were before
abbrev pub RebuildsAreCompiled : Type 0
RebuildsAreCompiled =
    (meaning : TextMeaning) (header : List ℕ → Header) (predefined : Query → AnswerKind) (lib : Library) (main : List ℕ) (old new : UnitKey → Option Stored) (rebuilt : Rebuilt)
    → IsRebuilt meaning header predefined lib main old new rebuilt → IsCompiled meaning (setting_of header predefined lib) main rebuilt.compiled

-- whether a unit moved, if these units were checked: an entry of it was made or dropped, or only one of the two builds reached it
abbrev pub is_moved : Library → List UnitKey → Entries → Entries → UnitKey → Bool
is_moved lib checked old new u = has_unit checked u || (is_some (settled_at old u) && not (is_there lib u)) || differ (state old u).was_reached (state new u).was_reached

-- whether an entry is neither written nor dropped
abbrev pub is_left : Library → List UnitKey → UnitKey → Bool
is_left lib checked u = is_there lib u && not (has_unit checked u)

-- How many stored answers a build compared, to 2^64-1: at most those to the look-ups in units that moved, in the entries as it
-- began, and at least those of them that are in entries which it neither writes nor drops.
pub record IsWithin (lib : Library) (checked : List UnitKey) (old new : Entries) (compared : ℕ) : Type 0 where
  pub most : ℕ
  pub is_most : HasAnswers log_of (λ u. true) (is_moved lib checked old new) old most
  pub at_most : compared ≤ most
  pub least : ℕ
  pub is_least : HasAnswers log_of (is_left lib checked) (is_moved lib checked old new) old least
  pub at_least : raised 0 least ≤ compared

-- What a build leaves of the entries: it settled these, if they are those that it reached.
pub record IsKept (predefined : Query → AnswerKind) (lib : Library) (old new : Entries) (made : UnitKey → Option Stored) (rebuilt : Rebuilt) : Type 0 where
  -- which units it reached, and their entries
  pub reached : (u : UnitKey) → before_at new u ≡ made u
  -- no entry was made since, and the marks say which stored answers differ from those of the units that it reached
  pub ready : AreReady predefined new
  -- how many stored answers it compared
  pub compared : IsWithin lib rebuilt.checked old new rebuilt.compared
  -- why it checked each unit, under the answers of the units that it reached
  pub reasons : AreReasons (present predefined (results_of made)) lib (settled_at old) rebuilt.checked rebuilt.reasons
