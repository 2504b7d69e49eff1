use Rattle.std.proofs.Common.{◌≡◌, ◌++◌, map, take}
use Rattle.std.specs.List.{flat_map}
use Rattle.al_base.specs.Batch.{key_of}
use Rattle.al_unit_graph.specs.Dependence.{declared}
use Rattle.al_unit_graph.proofs.source.Sources.add_declarations.Given as goal

abbrev pub invariant-loop-name : goal.invariant-loop-name
invariant-loop-name l =
    map key_of l.keys.items ≡ map key_of l.initial.keys.items ++ flat_map (declared l.self) (map (λ n. n.now) (take l.name-index l.names))
