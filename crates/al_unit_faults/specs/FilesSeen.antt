-- What is wrong with the files, file by file.
use Rattle.std.specs.Prelude.{ℕ, List, map}
use Rattle.al_base.specs.Batch.{Finding, finding_of}
use Rattle.al_unit_faults.specs.declared.listing.FileFaults.{FileFaults}

abbrev pub file_faults_model : FileFaults → List ℕ × List Finding
file_faults_model all = (all.file, map finding_of all.faults.items)
