use Rattle.std.proofs.Common.{◌≡◌, map, take}
use Rattle.al_base.specs.Batch.{key_of}
use Rattle.al_unit_graph.specs.Orders.{in_order}
use Rattle.al_engine.proofs.sorted.in_key_order.Given as goal

abbrev pub invariant-loop-unit : goal.invariant-loop-unit
invariant-loop-unit l = l.keys ≡ in_order (map key_of (take l.unit-index l.units))
