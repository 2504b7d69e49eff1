use Rattle.std.proofs.Common.{◌≡◌, ◌++◌, map}
use Rattle.std.specs.Map.{keys_of}
use Rattle.al_unit_graph.specs.Views.{library_of}
use Rattle.al_unit_graph.proofs.source.Sources.file_names.Given as goal

abbrev pub invariant-loop-name : goal.invariant-loop-name
invariant-loop-name l = map (λ n. n.now) l.names.items ++ keys_of (library_of l.name-iterator) ≡ keys_of l.self
