use Rattle.al_engine_runs.proofs.ToyFiles.{are_toys, texts_are}
use Rattle.al_engine_runs.proofs.files.ToyFilesReadFiles.of.Goals as goal

pub invariant_of-result : goal.invariant_of-result
invariant_of-result c = are_toys c.in_ok-sources.sources c.args.now.now c.in_ok-sources.ensures.sources

pub returns : goal.returns
returns c = texts_are c.in_ok-sources.sources c.args.now.now c.in_ok-sources.ensures.sources
