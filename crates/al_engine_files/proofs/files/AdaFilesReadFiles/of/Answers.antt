use Rattle.std.proofs.Common.{[], sym, ◌∙◌}
use Rattle.al_unit.proofs.LibraryLemmas.{no_library}
use Rattle.al_engine_files.proofs.OfTexts.{are_of_texts, files_are}
use Rattle.al_engine_files.proofs.files.AdaFilesReadFiles.of.Goals as goal

pub invariant_of-result : goal.invariant_of-result
invariant_of-result c = are_of_texts c.in_ok-sources.sources c.args.now.now c.in_ok-sources.ensures

pub returns : goal.returns
returns c = files_are c.in_ok-sources.sources c.args.now.now c.in_ok-sources.ensures

pub sources_after-requires : goal.sources_after-requires
sources_after-requires c = are_of_texts c.new-none.result [] (c.new-none.ensures ∙ sym no_library)
