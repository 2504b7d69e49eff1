use Rattle.std.proofs.Common.{◌≡◌, map, take}
use Rattle.al_base.specs.Batch.{key_of}
use Rattle.al_unit_faults.specs.Steps.{key_at}
use Rattle.al_unit_faults.proofs.places.units_at.Given as goal

abbrev pub invariant-loop-place : goal.invariant-loop-place
invariant-loop-place l = map key_of l.keys.items ≡ map (key_at (map key_of l.units)) (take l.place-index l.places)
