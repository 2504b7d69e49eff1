use Rattle.std.proofs.Common.{◌≡◌, map, take}
use Rattle.al_unit_faults.specs.FilesSeen.{file_faults_model}
use Rattle.al_unit_faults.specs.GraphFaults.{file_faults}
use Rattle.al_unit_faults.proofs.listing.faults_by_file.Given as goal

abbrev pub invariant-loop-file : goal.invariant-loop-file
invariant-loop-file l =
    (map file_faults_model l.all.items ≡ map (λ file. (file, file_faults l.sources file)) (map (λ n. n.now) (take l.file-index l.file-items)))
    × (l.failures ≡ l.initial.failures)
