-- All that is wrong with the units of a library as a graph.
use Rattle.std.specs.Prelude.{ℕ, List, [], ◌∷◌, ◌++◌}
use Rattle.std.specs.Option.{option_map_or}
use Rattle.std.specs.List.{flat_map}
use Rattle.al_base.specs.Batch.{Finding}
use Rattle.al_unit_graph.specs.Headers.{Header, Contents, Headed, Unread, Library}
use Rattle.al_unit_graph.specs.Library.{source_at}
use Rattle.al_unit_graph.specs.FaultLists.{name_faults, own_faults}
use Rattle.al_unit_faults.specs.Private.{private_faults}
use Rattle.al_unit_faults.specs.Cycles.{cycle_faults}
use Rattle.al_unit_faults.specs.Orders.{ascending}

-- the rules that a unit breaks whose name is right
abbrev pub rule_faults : Library → List ℕ → Header → List Finding
rule_faults lib file h = (own_faults lib file h ++ cycle_faults lib file h) ++ flat_map (private_faults lib file h) h.mentions

-- the others if there are none of these
abbrev pub or_else : List Finding → List Finding → List Finding
or_else [] others = others
or_else (f ∷ fs) others = f ∷ fs

abbrev pub header_faults : Library → List ℕ → Header → List Finding
header_faults lib file h = or_else (name_faults file h) (rule_faults lib file h)

-- a file that is no unit has no such fault
abbrev pub contents_faults : Library → List ℕ → Contents → List Finding
contents_faults lib file (Headed h) = header_faults lib file h
contents_faults lib file (Unread place code) = []

-- the faults of one file, by place and number
unfoldable pub file_faults : Library → List ℕ → List Finding
file_faults lib file = ascending (option_map_or (λ source. contents_faults lib file source.contents) (source_at lib file) [])

-- the errors of all files, in the order of their names
unfoldable pub graph_faults : Library → List Finding
graph_faults lib = flat_map (λ e. file_faults lib e.0) lib
