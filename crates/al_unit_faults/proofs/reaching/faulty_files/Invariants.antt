use Rattle.std.proofs.Common.{◌≡◌, map, take}
use Rattle.al_unit_faults.specs.FilesSeen.{file_faults_model}
use Rattle.al_unit_faults.specs.Reached.{has_fault}
use Rattle.al_unit_faults.proofs.reaching.faulty_files.Given as goal

abbrev pub invariant-loop-file : goal.invariant-loop-file
invariant-loop-file l = l.flags.items ≡ map (λ f. has_fault (file_faults_model f)) (take l.file-index l.faults)
