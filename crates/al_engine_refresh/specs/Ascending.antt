-- The order of diagnostics.
use Rattle.std.specs.Prelude.{Option}
use Rattle.std.specs.List.Sorted.{IsStrictlySortedBy}
use Rattle.std.specs.Map.{keys_of}
use Rattle.al_base.specs.Files.{name_cmp}
use Rattle.al_base.specs.declared.unit_key.UnitKey.{UnitKey}
use Rattle.al_unit_graph.specs.Headers.{Library}
use Rattle.al_unit_faults.specs.Orders.{finding_cmp}
use Rattle.al_query_outcome.specs.Results.{Outcome}
use Rattle.al_engine_refresh.specs.Found.{findings_of}

-- if the names of the files are sorted, the diagnostics are sorted by file, place and number, so none is reported twice
abbrev pub FindingsAscend : Type 0
FindingsAscend = (lib : Library) (f : UnitKey → Option Outcome) → IsStrictlySortedBy name_cmp (keys_of lib) → IsStrictlySortedBy finding_cmp (findings_of lib f)
