-- Units that move in a build, and the stored answers that are compared for it.
use Rattle.std.specs.Prelude.{◌≡◌, ◌↔◌, ◌&&◌, ℕ, Bool, true, false, not, List, Some, None, is_some, if◌then◌else◌}
use Rattle.std.specs.List.{Contains}
use Rattle.al_base.specs.declared.unit_key.UnitKey.{UnitKey}
use Rattle.al_view.specs.Symbols.{same_unit}
use Rattle.al_query.specs.Known.{has_unit}
use Rattle.al_query.specs.declared.answer.AnswerKind.{AnswerKind}
use Rattle.al_query.specs.declared.query.Query.{Query}
use Rattle.al_unit_graph.specs.Headers.{Library}
use Rattle.al_query_store.specs.Stored.{base, fresh}
use Rattle.al_query_store.specs.declared.slots.Held.{Held}
use Rattle.al_query_store.specs.Changes.{AreMarkedNow, HasAnswers}
use Rattle.al_query_store.specs.Keyed.{State, base_state, before_at, leaving, now_at, state, with_reached}
use Rattle.al_engine_refresh.specs.Stored.{Stored, log_of}
use Rattle.al_engine_refresh.specs.Moves.{Entries, has_moved}
use Rattle.al_engine_refresh.specs.Staying.{is_there}
use Rattle.al_engine_refresh.specs.Builds.{present, raised, results_of}

-- the answers of the units that are reached now, and of those that the last build reached
abbrev pub now_table : (Query → AnswerKind) → Entries → Query → AnswerKind
now_table predefined store = present predefined (results_of (now_at store))

abbrev pub last_table : (Query → AnswerKind) → Entries → Query → AnswerKind
last_table predefined store = present predefined (results_of (before_at store))

-- the current marks say which stored answers differ from those of the units that are reached now
abbrev pub MarksFollow : (Query → AnswerKind) → Entries → Type 0
MarksFollow predefined store = AreMarkedNow log_of (now_table predefined store) store

-- the number of stored answers that were compared: those to questions of units that moved
abbrev pub IsCompared : Entries → ℕ → Type 0
IsCompared store n = (m : ℕ) × HasAnswers log_of (λ u. true) (has_moved store) store m × (n ≡ raised 0 m)

-- a unit has another state; all others are the same except for current marks, and these follow
pub record Turned (predefined : Query → AnswerKind) (f : State Stored → State Stored) (unit : UnitKey) (old new : Entries) : Type 0 where
  pub states : (u : UnitKey) → base_state (state new u) ≡ base_state (if same_unit unit u then f (state old u) else state old u)
  pub marks : MarksFollow predefined old → MarksFollow predefined new

-- a unit leaves if, and only if, it has an entry and isn't in the library; a unit that leaves isn't reached
pub record AreLeaving (lib : Library) (store : Entries) : Type 0 where
  pub leaves : (u : UnitKey) → (state store u).leaves ≡ (is_some (state store u).settled && not (is_there lib u))
  pub unreached : (u : UnitKey) → (state store u).leaves ≡ true → (state store u).is_reached ≡ false

-- a unit of which an entry was made is reached; no mark of that entry is set
pub record AreMade (store : Entries) : Type 0 where
  pub reached : (u : UnitKey) → is_some (state store u).made ≡ true → (state store u).is_reached ≡ true
  pub fresh_made : (u : UnitKey) (h : Held Stored) → (state store u).made ≡ Some h → base h ≡ fresh log_of h.entry

-- a unit that has an entry and isn't in the library leaves; else one that isn't in the order isn't reached
abbrev pub left_out : Bool → Bool → State Stored → State Stored
left_out there ordered s = if is_some s.settled && not there then leaving s else (if ordered then s else with_reached false s)

-- before the walk over an order: units that aren't in it aren't reached, those that aren't in the library leave, all others are as before
pub record LeftOut (predefined : Query → AnswerKind) (lib : Library) (order : List UnitKey) (old new : Entries) : Type 0 where
  pub reached : (u : UnitKey) → has_unit order u ≡ false → (state new u).is_reached ≡ false
  pub leaving : AreLeaving lib new
  pub made : (u : UnitKey) → (state new u).made ≡ None
  pub unmoved : (u : UnitKey) → has_unit order u ≡ true → is_there lib u ≡ true → has_moved new u ≡ false
  pub marks : MarksFollow predefined old → MarksFollow predefined new

-- an entry was made of each of these units and of no other, and is as it should be; units that aren't in the library leave
pub record IsSteady (lib : Library) (checked : List UnitKey) (store : Entries) : Type 0 where
  pub listed : (u : UnitKey) → Contains checked u ↔ (is_some (state store u).made ≡ true)
  pub are_made : AreMade store
  pub leaving : AreLeaving lib store
