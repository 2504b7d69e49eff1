use Rattle.std.proofs.Common.{◌≡◌, map, take}
use Rattle.std.specs.List.{flat_map}
use Rattle.al_base.specs.Batch.{finding_of}
use Rattle.al_unit_faults.specs.FilesSeen.{file_faults_model}
use Rattle.al_query_store.specs.Keyed.{now_at}
use Rattle.al_engine_refresh.specs.Builds.{results_of}
use Rattle.al_engine_refresh.specs.Found.{told_in}
use Rattle.al_engine_refresh.proofs.files.findings_of.Given as goal

abbrev pub invariant-loop-file : goal.invariant-loop-file
invariant-loop-file l = map finding_of l.found.items ≡ flat_map (told_in l.sources (results_of (now_at l.entries))) (map file_faults_model (take l.file-index l.faults))
