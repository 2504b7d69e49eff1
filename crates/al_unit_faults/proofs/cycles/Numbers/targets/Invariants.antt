use Rattle.std.proofs.Common.{◌≡◌, map, take}
use Rattle.std.specs.List.{flat_map}
use Rattle.al_base.specs.Batch.{key_of}
use Rattle.al_unit_graph.specs.Dependence.{listed}
use Rattle.al_unit_faults.specs.Numbers.{numbers_model, node_of}
use Rattle.al_unit_faults.proofs.cycles.Numbers.targets.Given as goal

abbrev pub invariant-loop-key : goal.invariant-loop-key
invariant-loop-key l = l.targets.items ≡ flat_map (λ k. listed (node_of l.sources (numbers_model l.self) k)) (map key_of (take l.key-index l.key-items))
