-- The entries that a library has after a build.
use Rattle.std.specs.Prelude.{Bool, Option, Some, None, if◌then◌else◌}
use Rattle.al_base.specs.Batch.{key_of}
use Rattle.al_base.specs.declared.unit_key.UnitKey.{UnitKey}
use Rattle.al_unit_graph.specs.Headers.{Library}
use Rattle.al_unit_graph.specs.Library.{is_unit}
use Rattle.al_engine_refresh.specs.Stored.{Stored}

-- a file of the library without errors holds the unit
abbrev pub is_there : Library → UnitKey → Bool
is_there lib u = is_unit lib (key_of u)

abbrev pub or_else : Option Stored → Option Stored → Option Stored
or_else (Some e) other = Some e
or_else None other = other

-- the entries that a build made; a unit of the library that wasn't reached keeps its entry, if it has one; a unit that isn't in the library has none
abbrev pub staying : Library → (UnitKey → Option Stored) → (UnitKey → Option Stored) → UnitKey → Option Stored
staying lib old made u = or_else (made u) (if is_there lib u then old u else None)
