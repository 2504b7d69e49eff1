use Rattle.std.proofs.Common.{◌≡◌, ◌++◌, map}
use Rattle.al_base.specs.Batch.{finding_of}
use Rattle.al_unit_faults.specs.Spots.{finding_at}
use Rattle.al_engine_refresh.specs.Found.{checked_findings}
use Rattle.al_engine_refresh.proofs.finding.add_ascending.Given as goal

abbrev pub invariant-loop-spot : goal.invariant-loop-spot
invariant-loop-spot l =
    map finding_of l.found.items ++ map (finding_at l.file) l.spot-iterator ≡ map finding_of l.initial.found.items ++ checked_findings l.file l.faults
