use Rattle.std.proofs.Common.{map, ap, ◌∙◌}
use Rattle.std.proofs.lemmas.List.{take_all}
use Rattle.std.specs.List.{flat_map}
use Rattle.al_unit_faults.specs.FilesSeen.{file_faults_model}
use Rattle.al_query_store.specs.Keyed.{now_at}
use Rattle.al_engine_refresh.specs.Builds.{results_of}
use Rattle.al_engine_refresh.specs.Found.{told_in}
use Rattle.al_engine_refresh.proofs.FoundLemmas.{all_told, there_at, told_one}
use Rattle.al_engine_refresh.proofs.files.findings_of.Goals as goal

pub returns : goal.returns
returns c =
    let lib = c.args.sources.now in
    let f = results_of (now_at c.args.entries.now) in
    c.loop-file.invariant
    ∙ ap (λ fs. flat_map (told_in lib f) (map file_faults_model fs)) (take_all c.loop-file.file-index c.args.faults.now c.loop-file-test.false)
    ∙ ap (flat_map (told_in lib f)) c.requires.faults
    ∙ all_told lib f

pub add_told-requires : goal.add_told-requires
add_told-requires c =
    let lib = c.args.sources.now in
    let f = results_of (now_at c.args.entries.now) in
    told_one lib f c.args.alone (map file_faults_model c.args.faults.now) c.requires.faults c.requires.alone (file_faults_model c.file-item.result)
    (there_at file_faults_model c.args.faults.now c.loop-file.file-index c.file-item.result c.loop-file-test.true c.file-item.is)
