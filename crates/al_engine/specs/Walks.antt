-- Builds in which only the sources of some units were edited, and no header, step by step.
use Rattle.std.specs.Prelude.{◌≡◌, ◌++◌, ℕ, Bool, true, false, List}
use Rattle.std.specs.List.{Contains}
use Rattle.al_base.specs.Batch.{key_of}
use Rattle.al_base.specs.declared.unit_key.UnitKey.{UnitKey}
use Rattle.al_unit_graph.specs.Headers.{Header, Library}
use Rattle.al_unit_faults.specs.Reached.{is_faultless}
use Rattle.al_query.specs.Known.{has_unit}
use Rattle.al_query.specs.declared.answer.AnswerKind.{AnswerKind}
use Rattle.al_query.specs.declared.query.Query.{Query}
use Rattle.al_query_store.specs.Changes.{AreMarkedAsBefore}
use Rattle.al_query_store.specs.Keyed.{now_at, settled_at}
use Rattle.al_engine_refresh.specs.EntryLaw.{TextMeaning}
use Rattle.al_engine_refresh.specs.Moves.{Entries, IsLeft, has_moved}
use Rattle.al_engine_refresh.specs.Builds.{Picked, has_sound_dependences, results_of}
use Rattle.al_engine_refresh.specs.Handling.{within}
use Rattle.al_engine_refresh.specs.Moving.{IsSteady, MarksFollow}
use Rattle.al_engine_refresh.specs.Progress.{Progress}
use Rattle.al_engine.specs.Rechecks.{HasOrder}
use Rattle.al_engine.specs.RecheckEdits.{units_of}
use Rattle.al_engine.specs.declared.edited.EditedUnit.{EditedUnit}

-- whether one of these was edited
abbrev pub is_edited : List EditedUnit → UnitKey → Bool
is_edited edits u = has_unit (units_of edits) u

-- these are the edited units, each once, as they come in an order
pub record AreInOrder (order : List UnitKey) (edits row : List EditedUnit) : Type 0 where
  pub units : Picked (λ u. is_edited edits u ≡ true) order (units_of row)
  pub among : (e : EditedUnit) → Contains row e → Contains edits e

-- The first units of an order of dependence are as a build leaves them. The units that were checked are among these, and each was
-- edited; all other units have the entries that the last build settled.
pub record IsWalked (meaning : TextMeaning) (header : List ℕ → Header) (predefined : Query → AnswerKind) (lib : Library) (order : List UnitKey) (has : HasOrder header predefined lib order) (edits : List EditedUnit) (old now : Entries) (before rest checked : List UnitKey) : Type 0 where
  pub parts : order ≡ before ++ rest
  pub progress : Progress meaning header lib (λ u. is_faultless lib (key_of u)) predefined has.0 (settled_at old) (within before (now_at now)) before rest checked
  pub among : (w : UnitKey) → has_unit checked w ≡ true → (has_unit before w ≡ true) × (is_edited edits w ≡ true)
  pub others : (w : UnitKey) → has_unit checked w ≡ false → now_at now w ≡ settled_at old w
  pub unmoved : (w : UnitKey) → has_unit rest w ≡ true → has_moved now w ≡ false
  pub steady : IsSteady lib checked now
  pub marks : MarksFollow predefined now
  pub left : IsLeft old now

-- what was checked reached no other unit: each unit depends on units that are as sound as before, and no stored answer has
-- another mark
pub record IsUnread (lib : Library) (old now : Entries) : Type 0 where
  pub reached : (w : UnitKey) → is_faultless lib (key_of w) ≡ true → has_sound_dependences lib (results_of (now_at now)) w ≡ has_sound_dependences lib (results_of (settled_at old)) w
  pub marks : AreMarkedAsBefore now
