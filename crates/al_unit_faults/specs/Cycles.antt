-- Units that depend on themselves (ARM 10.1.1(26)), as it is computed.
use Rattle.std.specs.Prelude.{◌↔◌, ℕ, Bool, List}
use Rattle.std.specs.Option.{option_map}
use Rattle.std.specs.List.{Contains, flat_map, list_any}
use Rattle.al_base.specs.Batch.{Key, Finding}
use Rattle.al_base_graph.specs.Closing.{closing}
use Rattle.al_unit_graph.specs.Headers.{Header, Library, key_of_unit}
use Rattle.al_unit_graph.specs.Library.{unit_in}
use Rattle.al_unit_graph.specs.Dependence.{listed, direct, DependsOn}
use Rattle.al_unit_graph.specs.Closures.{is_same_key}
use Rattle.al_unit_graph.specs.FaultLists.{finding_if}

-- the units that the files hold, in the order of the files
abbrev pub unit_keys : Library → List Key
unit_keys lib = flat_map (λ e. listed (option_map key_of_unit (unit_in lib e.0))) lib

-- what a unit depends on, by way of others too
unfoldable pub all_dependences : Library → Key → List Key
all_dependences lib key = closing is_same_key (direct lib) (unit_keys lib) (direct lib key)

abbrev pub depends_on_itself : Library → Key → Bool
depends_on_itself lib key = list_any (is_same_key key) (all_dependences lib key)

abbrev pub cycle_faults : Library → List ℕ → Header → List Finding
cycle_faults lib file h = finding_if (depends_on_itself lib (key_of_unit h)) file (record { line = 1; col = 1 }) 203

-- the list has exactly what is in the relation
abbrev pub DependencesAreAll : Type 0
DependencesAreAll = (lib : Library) (key other : Key) → Contains (all_dependences lib key) other ↔ DependsOn lib key other
