-- The subunits of a unit's stubs.
use Rattle.std.specs.Prelude.{List, []}
use Rattle.std.specs.Option.{option_map_or}
use Rattle.al_base.specs.Batch.{Key}
use Rattle.al_unit_graph.specs.Headers.{Library}
use Rattle.al_unit_graph.specs.Library.{unit_at}
use Rattle.al_unit_graph.specs.Needed.{subunits_of}

-- none if there is no such unit
abbrev pub subunits_at : Library → Key → List Key
subunits_at lib key = option_map_or (subunits_of lib key.0) (unit_at lib key) []
