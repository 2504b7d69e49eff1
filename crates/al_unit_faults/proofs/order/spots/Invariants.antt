use Rattle.std.proofs.Common.{◌≡◌, ℕ, List, map, take}
use Rattle.al_unit_faults.specs.Orders.{ascending}
use Rattle.al_unit_faults.specs.Spots.{finding_at, spot_of}
use Rattle.al_unit_faults.proofs.order.spots.Given as goal

abbrev pub invariant-loop-d : goal.invariant-loop-d
invariant-loop-d l = (file : List ℕ) → map (finding_at file) l.spots.keys ≡ ascending (map (λ d. finding_at file (spot_of d)) (take l.d-index l.found))
