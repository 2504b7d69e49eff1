-- The effect of a build on the entries of a library's units.
use Rattle.std.specs.Prelude.{ℕ, ◌≡◌, ◌↔◌, true, false, List, map, Option, None, is_some, if◌then◌else◌}
use Rattle.std.specs.List.{Contains}
use Rattle.std.specs.List.Sorted.{IsStrictlySortedBy}
use Rattle.al_base.specs.Batch.{key_of}
use Rattle.al_base.specs.declared.unit_key.UnitKey.{UnitKey}
use Rattle.al_unit_graph.specs.Headers.{Header, Library}
use Rattle.al_unit_graph.specs.Orders.{key_cmp}
use Rattle.al_unit_faults.specs.Reached.{is_faultless}
use Rattle.al_query.specs.declared.answer.AnswerKind.{AnswerKind}
use Rattle.al_query.specs.declared.query.Query.{Query}
use Rattle.al_query_outcome.specs.Equations.{IsSetting, Setting, Solves, is_reached, table}
use Rattle.al_query_outcome.specs.Results.{Outcome}
use Rattle.al_engine_refresh.specs.EntryLaw.{AllKeepLaw, HasCurrent, TextMeaning}
use Rattle.al_engine_refresh.specs.Stored.{Stored, log_of}
use Rattle.al_engine_refresh.specs.Builds.{IsOrder, NeedsCheck, results_of, setting, text_of, with_texts}
use Rattle.al_query_store.specs.Changes.{AreMarked}
use Rattle.al_query_store.specs.Keyed.{before_at, entry_of, kept_state, now_at, settled_at, settled_state, state}
use Rattle.al_engine_refresh.specs.Moves.{AreQuiet, Entries}
use Rattle.al_engine_refresh.specs.Staying.{is_there, staying}
use Rattle.al_engine_refresh.specs.Moving.{AreLeaving, AreMade, IsCompared, MarksFollow, last_table}

-- a library with its headers, its units that break no rule of the graph, and the answers of the predefined units
abbrev pub setting_of : (List ℕ → Header) → (Query → AnswerKind) → Library → Setting
setting_of header predefined lib = setting header lib (λ u. is_faultless lib (key_of u)) predefined

-- an order of dependence of a library whose dependences are acyclic
abbrev pub HasOrder : (List ℕ → Header) → (Query → AnswerKind) → Library → List UnitKey → Type 0
HasOrder header predefined lib order = (is : IsSetting (setting_of header predefined lib)) × IsOrder (setting_of header predefined lib) is.rank order

-- The entries that a build makes, and the units that it checks, whatever the old entries are, as long as they keep the reads law.
pub record IsRechecked (meaning : TextMeaning) (header : List ℕ → Header) (s : Setting) (old made : UnitKey → Option Stored) (checked : List UnitKey) : Type 0 where
  -- every entry keeps the reads law
  pub law : AllKeepLaw meaning header made
  -- the outcomes solve the equations of the library, and no others do
  pub solves : Solves (with_texts meaning s.files) s (results_of made)
  pub only : (g : UnitKey → Option Outcome) → Solves (with_texts meaning s.files) s g → (u : UnitKey) → g u ≡ results_of made u
  -- a unit that is reached has an entry for its source with the answers of now; no other unit has one
  pub current : (u : UnitKey) → is_reached s (results_of made) u ≡ true → HasCurrent (made u) (text_of s.files u) (table s (results_of made))
  pub unreached : (u : UnitKey) → is_reached s (results_of made) u ≡ false → made u ≡ None
  -- exactly the units are checked that had no such entry before; they are listed by unit and kind
  pub rechecked : (u : UnitKey) → Contains checked u ↔ NeedsCheck s old (text_of s.files) (results_of made) u
  pub ascend : IsStrictlySortedBy key_cmp (map key_of checked)

-- The entries of all units after a build with these outcomes.
pub record AreSettled (s : Setting) (outcomes : UnitKey → Option Outcome) (old new : UnitKey → Option Stored) : Type 0 where
  -- a unit that is reached has an entry for its source with the answers of now, and its outcome
  pub current : (u : UnitKey) → is_reached s outcomes u ≡ true → HasCurrent (new u) (text_of s.files u) (table s outcomes)
  pub results : (u : UnitKey) → is_reached s outcomes u ≡ true → results_of new u ≡ outcomes u
  -- a unit of the library that isn't reached has the same entry as before; one that isn't in the library has none
  pub others : (u : UnitKey) → is_reached s outcomes u ≡ false → new u ≡ (if is_there s.files u then old u else None)

-- the entries after a build are these
abbrev pub StayingAreSettled : Type 0
StayingAreSettled =
    (meaning : TextMeaning) (header : List ℕ → Header) (s : Setting) (old made : UnitKey → Option Stored) (checked : List UnitKey)
    → IsRechecked meaning header s old made checked → AreSettled s (results_of made) old (staying s.files old made)

-- the entry that a unit will have once the build is settled
abbrev pub will_be : Entries → UnitKey → Option Stored
will_be store u = entry_of (settled_state (state store u)).settled

-- The effect of a build on the entries of a library's units, before it is settled or cancelled. The entries of the last build are
-- unchanged.
pub record IsUpdated (meaning : TextMeaning) (header : List ℕ → Header) (predefined : Query → AnswerKind) (lib : Library) (old new : Entries) (checked : List UnitKey) (count : ℕ) : Type 0 where
  -- which units were checked, and the entries of those that are reached
  pub rechecked : IsRechecked meaning header (setting_of header predefined lib) (settled_at old) (now_at new) checked
  -- which entries there will be
  pub staying : (u : UnitKey) → will_be new u ≡ staying lib (settled_at old) (now_at new) u
  -- the marks of now say which stored answers differ from those of now
  pub marks : MarksFollow predefined new
  -- the number of stored answers that were compared: those to look-ups in units that moved
  pub compared : IsCompared new count
  -- an entry was made of each unit that was checked, and of no other
  pub made : (u : UnitKey) → Contains checked u ↔ (is_some (state new u).made ≡ true)
  pub are_made : AreMade new
  -- a unit that leaves isn't in the library
  pub leaving : AreLeaving lib new

-- no entry was made since the last build, and the marks say which stored answers differ from those that it reached
pub record AreReady (predefined : Query → AnswerKind) (store : Entries) : Type 0 where
  pub quiet : AreQuiet store
  pub marks : AreMarked log_of (last_table predefined store) store

-- the last build reached each unit that has an entry
abbrev pub AreAllReached : Entries → Type 0
AreAllReached store = (u : UnitKey) → before_at store u ≡ settled_at store u

-- a build that is settled is ready for the next one, which finds as reached what was reached
abbrev pub UpdatesAreReady : Type 0
UpdatesAreReady =
    (meaning : TextMeaning) (header : List ℕ → Header) (predefined : Query → AnswerKind) (lib : Library) (old mid new : Entries) (checked : List UnitKey) (compared : ℕ)
    → IsUpdated meaning header predefined lib old mid checked compared → ((u : UnitKey) → state new u ≡ kept_state (settled_state (state mid u)))
    → AreReady predefined new × ((u : UnitKey) → before_at new u ≡ now_at mid u)
