-- What the calls of a build make of a store.
use Rattle.std.specs.Prelude.{◌≡◌, ℕ, Bool, true, false, ◌&&◌, List, Option, Some, length, nat_eq, slice_get}
use Rattle.std.specs.Option.{option_and_then, option_map_or}
use Rattle.al_base.specs.declared.unit_key.UnitKey.{UnitKey}
use Rattle.al_view.specs.Symbols.{same_unit}
use Rattle.al_query.specs.Queries.{unit_of}
use Rattle.al_query.specs.declared.answer.AnswerKind.{AnswerKind}
use Rattle.al_query.specs.declared.query.Query.{Query}
use Rattle.al_query_store.specs.Counting.{IsCount}
use Rattle.al_query_store.specs.Marking.{MarksTell, Tells}
use Rattle.al_query_store.specs.Stored.{fresh}
use Rattle.al_query_store.specs.declared.slots.Held.{Held}
use Rattle.al_query_store.specs.Keyed.{State, base_state, state}

-- a place of the log of a unit's settled entry
pub record Spot : Type 0 where
  pub unit : UnitKey
  pub at : ℕ

abbrev pub same_spot : Spot → Spot → Bool
same_spot a b = same_unit a.unit b.unit && nat_eq a.at b.at

-- after the answers to a unit's questions were compared: a mark of one of these says whether it differs from a table's, the others' are as
-- before
pub record AreCompared (t : Query → AnswerKind) (unit : UnitKey) (log : List (Query × AnswerKind)) (old new : List Bool) : Type 0 where
  pub sized : length new ≡ length log
  pub answered : (i : ℕ) (e : Query × AnswerKind) → slice_get log i ≡ Some e → same_unit (unit_of e.0) unit ≡ true → (differs : Bool) × (slice_get new i ≡ Some differs) × Tells t e differs
  pub left : (i : ℕ) (e : Query × AnswerKind) → slice_get log i ≡ Some e → same_unit (unit_of e.0) unit ≡ false → slice_get new i ≡ slice_get old i

-- whether there is an answer, to a question of a unit for which a test holds
abbrev pub asks : (UnitKey → Bool) → Option (Query × AnswerKind) → Bool
asks asked o = option_map_or (λ e. asked (unit_of e.0)) o false

-- the marks of now of settled entries are those of the last build
abbrev pub AreMarkedAsBefore : {E : Type 0} → List (UnitKey × State E) → Type 0
AreMarkedAsBefore {E} store = (u : UnitKey) (h : Held E) → (state store u).settled ≡ Some h → h.marks.now ≡ h.marks.last

module _ {E : Type 0} (log : E → List (Query × AnswerKind)) where
  -- an entry was made of a unit, which is reached
  abbrev pub with_made : E → State E → State E
  with_made e s = record { settled = s.settled; made = Some (fresh log e); was_reached = s.was_reached; is_reached = true; leaves = s.leaves }

  -- the settled entries' answers to a unit's questions were compared with a table's
  pub record ComparesUnit (t : Query → AnswerKind) (unit : UnitKey) (old new : List (UnitKey × State E)) : Type 0 where
    pub base : (u : UnitKey) → base_state (state new u) ≡ base_state (state old u)
    pub marks : (u : UnitKey) (h g : Held E) → (state old u).settled ≡ Some h → (state new u).settled ≡ Some g → AreCompared t unit (log h.entry) h.marks.now g.marks.now

  -- the marks of the last build say which answers of settled entries differ from a table's; and the marks of now do
  abbrev pub AreMarked : (Query → AnswerKind) → List (UnitKey × State E) → Type 0
  AreMarked t store = (u : UnitKey) (h : Held E) → (state store u).settled ≡ Some h → MarksTell t (log h.entry) h.marks.last

  abbrev pub AreMarkedNow : (Query → AnswerKind) → List (UnitKey × State E) → Type 0
  AreMarkedNow t store = (u : UnitKey) (h : Held E) → (state store u).settled ≡ Some h → MarksTell t (log h.entry) h.marks.now

  -- the answer at a place of the log of a unit's settled entry
  abbrev pub answer_of : List (UnitKey × State E) → Spot → Option (Query × AnswerKind)
  answer_of store p = option_and_then (λ h. slice_get (log h.entry) p.at) (state store p.unit).settled

  -- so many answers there are, in the settled entries of units for which a test holds, to questions of units for which another does
  abbrev pub HasAnswers : (UnitKey → Bool) → (UnitKey → Bool) → List (UnitKey × State E) → ℕ → Type 0
  HasAnswers among asked store n = IsCount same_spot (λ p. among p.unit && asks asked (answer_of store p)) n
