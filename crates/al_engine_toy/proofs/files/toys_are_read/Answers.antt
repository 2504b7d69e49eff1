use Rattle.al_engine_toy.proofs.ToyFiles.{are_read}
use Rattle.al_engine_toy.proofs.files.toys_are_read.Goals as goal

pub returns : goal.returns
returns c = are_read
