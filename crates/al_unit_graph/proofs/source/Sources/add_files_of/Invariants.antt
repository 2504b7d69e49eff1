use Rattle.std.proofs.Common.{◌≡◌, ◌++◌, map, take}
use Rattle.std.specs.List.{flat_map}
use Rattle.al_unit_graph.specs.Traces.{declaration_files}
use Rattle.al_unit_graph.proofs.source.Sources.add_files_of.Given as goal

abbrev pub invariant-loop-name : goal.invariant-loop-name
invariant-loop-name l = l.files.items ≡ l.initial.files.items ++ flat_map (declaration_files l.self) (map (λ n. n.now) (take l.name-index l.names))
