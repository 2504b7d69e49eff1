use Rattle.std.proofs.Common.{map, ◌-◌}
use Rattle.al_base.specs.Batch.{key_of}
use Rattle.al_unit_faults.proofs.PlaceLemmas.{IsNarrowed}
use Rattle.al_unit_faults.proofs.places.place_of.Given as goal

abbrev pub invariant-places : goal.invariant-places
invariant-places l = IsNarrowed (map key_of l.units) (key_of l.key) l.low l.high

abbrev pub decreases-places : goal.decreases-places
decreases-places l = l.high - l.low
