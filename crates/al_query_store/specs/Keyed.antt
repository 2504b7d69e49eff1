-- Units with the keys of their entries.
use Rattle.std.specs.Prelude.{◌≡◌, ◌||◌, ℕ, Bool, true, false, not, is_some, List, Option, Some, None, map, unwrap_or, if◌then◌else◌}
use Rattle.std.specs.Option.{option_map}
use Rattle.slab.specs.Slab.{Slab, get}
use Rattle.al_base.specs.declared.unit_key.UnitKey.{UnitKey}
use Rattle.al_view.specs.Symbols.{same_unit}
use Rattle.al_query_store.specs.Units.{at_unit}
use Rattle.al_query_store.specs.Stored.{base, kept, settled}
use Rattle.al_query_store.specs.declared.slots.Held.{Held}
use Rattle.al_query_store.specs.declared.cell.Cell.{Cell}

-- what there is of a unit: its entry as the last build settled it, and the one that a build made since; whether the last build reached it,
-- and whether it is reached now; and whether it leaves the library
pub record State (E : Type 0) : Type 0 where
  pub settled : Option (Held E)
  pub made : Option (Held E)
  pub was_reached : Bool
  pub is_reached : Bool
  pub leaves : Bool

-- no entry
abbrev pub empty : Cell
empty = record { settled = None; made = None; was_reached = false; is_reached = false; leaves = false }

-- the cell of a unit; an empty one if it has none
abbrev pub cell_at : List (UnitKey × Cell) → UnitKey → Cell
cell_at cells u = unwrap_or (at_unit cells u) empty

-- a unit that has a cell has another one
abbrev pub put : Option Cell → Cell → Cell
put None to = empty
put (Some c) to = to

-- the key of the entry of now of a unit that is reached: of the one that was made, or else of the settled one
abbrev pub first_key : Option ℕ → Option ℕ → Option ℕ
first_key (Some k) other = Some k
first_key None other = other

abbrev pub now_key : Cell → Option ℕ
now_key c = if c.is_reached then first_key c.made c.settled else None

-- exactly one of two tests holds
abbrev pub differ : Bool → Bool → Bool
differ true b = not b
differ false b = b

module _ {E : Type 0} where
  abbrev pub under : Slab (Held E) → Option ℕ → Option (Held E)
  under slots None = None
  under slots (Some k) = get slots k

  -- what is under the keys of a unit
  abbrev pub seen : Slab (Held E) → Cell → State E
  seen slots c = record { settled = under slots c.settled; made = under slots c.made; was_reached = c.was_reached; is_reached = c.is_reached; leaves = c.leaves }

  abbrev pub with_slots : List (UnitKey × Cell) → Slab (Held E) → List (UnitKey × State E)
  with_slots cells slots = map (λ e. (e.0, seen slots e.1)) cells

  abbrev pub nothing : State E
  nothing = record { settled = None; made = None; was_reached = false; is_reached = false; leaves = false }

  -- what there is of a unit in a store
  abbrev pub state : List (UnitKey × State E) → UnitKey → State E
  state store u = unwrap_or (at_unit store u) nothing

  -- the state of one unit changes, and those of all others stay
  abbrev pub Changes : (State E → State E) → UnitKey → List (UnitKey × State E) → List (UnitKey × State E) → Type 0
  Changes f unit old new = (u : UnitKey) → state new u ≡ (if same_unit unit u then f (state old u) else state old u)

  abbrev pub SameStates : List (UnitKey × State E) → List (UnitKey × State E) → Type 0
  SameStates old new = (u : UnitKey) → state new u ≡ state old u

  -- marks of now put back, or taken over
  abbrev pub base_state : State E → State E
  base_state s = record { settled = option_map base s.settled; made = option_map base s.made; was_reached = s.was_reached; is_reached = s.is_reached; leaves = s.leaves }

  abbrev pub kept_state : State E → State E
  kept_state s = record { settled = option_map kept s.settled; made = option_map kept s.made; was_reached = s.was_reached; is_reached = s.is_reached; leaves = s.leaves }

  -- reached now or not; and leaving the library
  abbrev pub with_reached : Bool → State E → State E
  with_reached b s = record { settled = s.settled; made = s.made; was_reached = s.was_reached; is_reached = b; leaves = s.leaves }

  abbrev pub leaving : State E → State E
  leaving s = record { settled = s.settled; made = s.made; was_reached = s.was_reached; is_reached = false; leaves = true }

  -- the last build reached what is reached now; and what it reached is what is reached now again
  abbrev pub as_now : State E → State E
  as_now s = record { settled = s.settled; made = s.made; was_reached = s.is_reached; is_reached = s.is_reached; leaves = false }

  abbrev pub as_before : State E → State E
  as_before s = record { settled = s.settled; made = s.made; was_reached = s.was_reached; is_reached = s.was_reached; leaves = false }

  -- an entry was made, or it leaves, or it is reached by one build alone
  abbrev pub is_moved : State E → Bool
  is_moved s = is_some s.made || s.leaves || differ s.was_reached s.is_reached

  abbrev pub without_settled : State E → State E
  without_settled s = record { settled = None; made = s.made; was_reached = s.was_reached; is_reached = s.is_reached; leaves = s.leaves }

  abbrev pub without_made : State E → State E
  without_made s = record { settled = s.settled; made = None; was_reached = s.was_reached; is_reached = s.is_reached; leaves = s.leaves }

  -- the entry that was made is the settled one
  abbrev pub promoted : State E → State E
  promoted s = record { settled = option_map settled s.made; made = None; was_reached = s.was_reached; is_reached = s.is_reached; leaves = s.leaves }

  abbrev pub or_settled : Option (Held E) → Option (Held E) → Option (Held E)
  or_settled (Some h) other = Some (settled h)
  or_settled None other = other

  abbrev pub replaced : State E → State E
  replaced s = record { settled = or_settled s.made s.settled; made = None; was_reached = s.was_reached; is_reached = s.is_reached; leaves = s.leaves }

  -- a unit after a build that answered, and after one that didn't
  abbrev pub settled_so : State E → State E
  settled_so s = record { settled = or_settled s.made s.settled; made = None; was_reached = s.is_reached; is_reached = s.is_reached; leaves = false }

  abbrev pub settled_state : State E → State E
  settled_state s = if s.leaves then nothing else settled_so s

  abbrev pub cancelled_state : State E → State E
  cancelled_state s = record { settled = s.settled; made = None; was_reached = s.was_reached; is_reached = s.was_reached; leaves = false }

  -- the entry of a unit, of now, as long as it is reached; of the last build, as long as that reached it; and the settled one
  abbrev pub entry_of : Option (Held E) → Option E
  entry_of o = option_map (λ h. h.entry) o

  abbrev pub first_of : Option E → Option E → Option E
  first_of (Some e) other = Some e
  first_of None other = other

  abbrev pub settled_at : List (UnitKey × State E) → UnitKey → Option E
  settled_at store u = entry_of (state store u).settled

  abbrev pub before_at : List (UnitKey × State E) → UnitKey → Option E
  before_at store u = let s = state store u in if s.was_reached then entry_of s.settled else None

  abbrev pub now_at : List (UnitKey × State E) → UnitKey → Option E
  now_at store u = let s = state store u in if s.is_reached then first_of (entry_of s.made) (entry_of s.settled) else None

  -- what is held, if it is a settled entry; and what is held, if it was made since
  abbrev pub if_settled : Option (Held E) → Option (Held E)
  if_settled None = None
  if_settled (Some h) = if h.is_settled then Some h else None

  abbrev pub if_made : Option (Held E) → Option (Held E)
  if_made None = None
  if_made (Some h) = if h.is_settled then None else Some h

-- the key of each unit has a value, no two units have one key, and there is no value but for a unit
pub record IsKeyed {H : Type 0} (keys : UnitKey → Option ℕ) (at : ℕ → Option H) : Type 0 where
  pub found : (u : UnitKey) (k : ℕ) → keys u ≡ Some k → at k ≡ None → ⊥
  pub apart : (u v : UnitKey) (k : ℕ) → keys u ≡ Some k → keys v ≡ Some k → u ≡ v
  pub whole : (k : ℕ) (h : H) → at k ≡ Some h → (u : UnitKey) × (keys u ≡ Some k)

-- the keys of the settled entries, and of those that were made
abbrev pub settled_key : List (UnitKey × Cell) → UnitKey → Option ℕ
settled_key cells u = (cell_at cells u).settled

abbrev pub made_key : List (UnitKey × Cell) → UnitKey → Option ℕ
made_key cells u = (cell_at cells u).made

-- the entries are those of the cells
pub record AreCells {E : Type 0} (cells : List (UnitKey × Cell)) (slots : Slab (Held E)) : Type 0 where
  pub of_settled : IsKeyed (settled_key cells) (λ k. if_settled (get slots k))
  pub of_made : IsKeyed (made_key cells) (λ k. if_made (get slots k))
