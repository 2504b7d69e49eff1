use Rattle.std.proofs.Common.{◌≡◌, map, take}
use Rattle.std.specs.List.{flat_map}
use Rattle.al_base.specs.Batch.{finding_of}
use Rattle.al_unit_faults.specs.GraphFaults.{file_faults}
use Rattle.al_unit_faults.proofs.listing.faults.Given as goal

abbrev pub invariant-loop-file : goal.invariant-loop-file
invariant-loop-file l =
    (map finding_of l.found.items ≡ flat_map (file_faults l.sources) (map (λ n. n.now) (take l.file-index l.file-items)))
    × (l.failures ≡ l.initial.failures)
