use Rattle.std.proofs.Common.{◌≡◌, ◌++◌, map}
use Rattle.al_base.specs.Batch.{finding_of}
use Rattle.al_unit_faults.specs.Orders.{ascending}
use Rattle.al_unit_faults.specs.Spots.{finding_at, spot_of}
use Rattle.al_unit_faults.proofs.order.add_ascending.Given as goal

abbrev pub invariant-loop-spot : goal.invariant-loop-spot
invariant-loop-spot l =
    map finding_of l.all.items ++ map (finding_at l.file) l.spot-iterator ≡ map finding_of l.initial.all.items ++ ascending (map (λ d. finding_at l.file (spot_of d)) l.found)
