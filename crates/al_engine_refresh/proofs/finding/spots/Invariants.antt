use Rattle.std.proofs.Common.{◌≡◌, ℕ, List, map, take}
use Rattle.al_unit_faults.specs.Spots.{finding_at}
use Rattle.al_engine_refresh.specs.Found.{checked_findings}
use Rattle.al_engine_refresh.proofs.finding.spots.Given as goal

abbrev pub invariant-loop-d : goal.invariant-loop-d
invariant-loop-d l = (file : List ℕ) → map (finding_at file) l.spots.keys ≡ checked_findings file (take l.d-index l.found)
