-- Which units a build moved, and what it leaves.
use Rattle.std.specs.Prelude.{◌≡◌, Bool, false, List}
use Rattle.al_base.specs.declared.unit_key.UnitKey.{UnitKey}
use Rattle.al_query.specs.Known.{has_unit}
use Rattle.al_engine_refresh.specs.Stored.{Stored}
use Rattle.al_query_store.specs.Keyed.{State, base_state, cancelled_state, is_moved, state}

abbrev pub Entries : Type 0
Entries = List (UnitKey × State Stored)

-- except for these units, nothing was made, and the same units are reached as in the last build
abbrev pub AreQuietBut : List UnitKey → Entries → Type 0
AreQuietBut moved store = (u : UnitKey) → has_unit moved u ≡ false → state store u ≡ cancelled_state (state store u)

-- nothing was made or marked since the last build
abbrev pub AreQuiet : Entries → Type 0
AreQuiet store = (u : UnitKey) → state store u ≡ base_state (cancelled_state (state store u))

-- what the last build left is as it was
abbrev pub left_by_last : State Stored → State Stored
left_by_last s = base_state (cancelled_state s)

abbrev pub IsLeft : Entries → Entries → Type 0
IsLeft old new = (u : UnitKey) → left_by_last (state new u) ≡ left_by_last (state old u)

-- a unit moved since the last build: an entry was made of it, it leaves, or it is reached in one of the two builds only
abbrev pub has_moved : Entries → UnitKey → Bool
has_moved store u = is_moved (state store u)
