-- The entries after a build of a library's units, from those before it.
use Rattle.std.specs.Prelude.{◌≡◌, ℕ, ◌+◌, ◌-◌, ◌<◌, ◌^◌, Bool, true, false, List, [], ◌∷◌, ◌++◌, ⊤, Option, None, nat_le, if◌then◌else◌}
use Rattle.std.specs.List.{list_all}
use Rattle.std.specs.Option.{option_map, option_map_or}
use Rattle.al_base.specs.Batch.{key_of}
use Rattle.al_base.specs.FileNames.{file_name_of}
use Rattle.al_base.specs.declared.unit_key.UnitKey.{UnitKey}
use Rattle.al_query.specs.Known.{has_unit, predefined_units}
use Rattle.al_query.specs.Queries.{unit_of}
use Rattle.al_query.specs.declared.answer.AnswerKind.{AnswerKind}
use Rattle.al_query.specs.declared.query.Query.{Query}
use Rattle.al_unit_graph.specs.Dependence.{direct}
use Rattle.al_unit_graph.specs.Headers.{Header, Library}
use Rattle.al_unit_graph.specs.Library.{source_at}
use Rattle.al_query_outcome.specs.Equations.{Meaning, Setting, Solves, entry, is_reached, is_sound, table, unit_named}
use Rattle.al_query_outcome.specs.Results.{Outcome}
use Rattle.al_engine_refresh.specs.EntryLaw.{AllKeepLaw, HasCurrent, TextMeaning}
use Rattle.al_engine_refresh.specs.Stored.{Stored, outcome_of}

-- the outcomes of entries
abbrev pub results_of : (UnitKey → Option Stored) → UnitKey → Option Outcome
results_of at u = option_map outcome_of (at u)

-- the answers of the predefined units, and of the units of a map from units to outcomes
abbrev pub present : (Query → AnswerKind) → (UnitKey → Option Outcome) → Query → AnswerKind
present predefined f q = if has_unit predefined_units (unit_of q) then predefined q else entry (f (unit_of q)) q

-- the source in a unit's file; no bytes if it has no file
abbrev pub text_of : Library → UnitKey → List ℕ
text_of lib u = option_map_or (λ source. source.text) (source_at lib (file_name_of (key_of u))) []

-- the outcome of each unit with the source that a library has
abbrev pub with_texts : TextMeaning → Library → Meaning
with_texts meaning lib u t = meaning u (text_of lib u) t

-- whether each unit that a unit depends on directly is without errors
abbrev pub has_sound_dependences : Library → (UnitKey → Option Outcome) → UnitKey → Bool
has_sound_dependences lib f u = list_all (λ k. is_sound (f (unit_named k))) (direct lib (key_of u))

-- a library, with the headers of its sources, the units that break no rule of the graph, and the predefined units' answers
abbrev pub setting : (List ℕ → Header) → Library → (UnitKey → Bool) → (Query → AnswerKind) → Setting
setting header lib is_faultless predefined = record { files = lib; header_of = λ u. header (text_of lib u); is_faultless = is_faultless; predefined = predefined }

-- each unit once, after all of lower rank, and none that breaks a rule of the graph
abbrev pub StandsAfter : Setting → (UnitKey → ℕ) → List UnitKey → List UnitKey → Type 0
StandsAfter s rank before [] = ⊤
StandsAfter s rank before (u ∷ us) =
    (has_unit before u ≡ false) × (s.is_faultless u ≡ true) × ((d : UnitKey) → s.is_faultless d ≡ true → rank d < rank u → has_unit before d ≡ true) × StandsAfter s rank (before ++ u ∷ []) us

-- an order of dependence: all units that break no rule, each after all that it depends on
pub record IsOrder (s : Setting) (rank : UnitKey → ℕ) (order : List UnitKey) : Type 0 where
  pub after : StandsAfter s rank [] order
  pub whole : (u : UnitKey) → s.is_faultless u ≡ true → has_unit order u ≡ true

-- the units of a list for which something holds
pub data Picked (P : UnitKey → Type 0) : List UnitKey → List UnitKey → Type 0 where
  no_units : Picked P [] []
  taken : {u : UnitKey} {us vs : List UnitKey} → P u → Picked P us vs → Picked P (u ∷ us) (u ∷ vs)
  left : {u : UnitKey} {us vs : List UnitKey} → (P u → ⊥) → Picked P us vs → Picked P (u ∷ us) vs

-- a unit is reached, and there was no entry for its source, or one with an answer that differs under the table of a map
abbrev pub NeedsCheck : Setting → (UnitKey → Option Stored) → (UnitKey → List ℕ) → (UnitKey → Option Outcome) → UnitKey → Type 0
NeedsCheck s old text f u = (is_reached s f u ≡ true) × (HasCurrent (old u) (text u) (table s f) → ⊥)

-- the sum of the two, at most the greatest number of 64 bits
abbrev pub raised : ℕ → ℕ → ℕ
raised n k = if nat_le (n + k) (2 ^ 64 - 1) then n + k else 2 ^ 64 - 1

-- entries of a build, of these units, after those that were there
pub record IsBuilt (meaning : TextMeaning) (header : List ℕ → Header) (s : Setting) (old new : UnitKey → Option Stored) (order checked : List UnitKey) : Type 0 where
  -- every entry keeps the law
  pub law : AllKeepLaw meaning header new
  -- the outcomes solve the equations of the library, and no others do
  pub solves : Solves (with_texts meaning s.files) s (results_of new)
  pub only : (g : UnitKey → Option Outcome) → Solves (with_texts meaning s.files) s g → (u : UnitKey) → g u ≡ results_of new u
  -- a unit that is reached has an entry for its source with the current answers; no other unit has one
  pub current : (u : UnitKey) → is_reached s (results_of new) u ≡ true → HasCurrent (new u) (text_of s.files u) (table s (results_of new))
  pub unreached : (u : UnitKey) → is_reached s (results_of new) u ≡ false → new u ≡ None
  -- the units that were checked are those that had no such entry before
  pub rechecked : Picked (NeedsCheck s old (text_of s.files) (results_of new)) order checked
