-- The units of a library, by file.
use Rattle.std.specs.Prelude.{◌≡◌, ◌↔◌, ℕ, List, map, Option, Some}
use Rattle.std.specs.Option.{option_map}
use Rattle.std.specs.List.{Contains, flat_map}
use Rattle.std.specs.Map.{keys_of}
use Rattle.al_base.specs.Batch.{Key, key_of}
use Rattle.al_base.specs.declared.unit_key.UnitKey.{UnitKey}
use Rattle.al_unit_graph.specs.Headers.{Header, Library, key_of_unit}
use Rattle.al_unit_graph.specs.Library.{unit_in, unit_at}
use Rattle.al_unit_graph.specs.Dependence.{listed}

-- the file of a library, and the unit that it holds, if it is sound
abbrev pub unit_of_file : Library → List ℕ → List ℕ × Option Key
unit_of_file lib file = (file, option_map key_of_unit (unit_in lib file))

-- each file, in the order of the names, and the unit that it holds
unfoldable pub units_of : Library → List (List ℕ × Option Key)
units_of lib = map (unit_of_file lib) (keys_of lib)

-- the units of the library, in the order of their files
abbrev pub keys_of_units : Library → List Key
keys_of_units lib = flat_map (λ file. listed file.1) (units_of lib)

-- a file and its unit as the program gives them
abbrev pub unit_model : List ℕ × Option UnitKey → List ℕ × Option Key
unit_model file = (file.0, option_map key_of file.1)

-- the units are those that the library has
abbrev pub UnitsAreHeld : Type 0
UnitsAreHeld = (lib : Library) (key : Key) → Contains (keys_of_units lib) key ↔ ((h : Header) × (unit_at lib key ≡ Some h))
