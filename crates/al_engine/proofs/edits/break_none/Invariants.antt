use Rattle.std.proofs.Common.{◌≡◌, ℕ, List, [], map, take}
use Rattle.std.specs.List.{Contains}
use Rattle.al_base.specs.Batch.{Finding}
use Rattle.al_unit_faults.specs.FilesSeen.{file_faults_model}
use Rattle.al_engine.proofs.edits.break_none.Given as goal

abbrev pub invariant-loop-file : goal.invariant-loop-file
invariant-loop-file l = (f : List ℕ × List Finding) → Contains (map file_faults_model (take l.file-index l.faults)) f → f.1 ≡ []
