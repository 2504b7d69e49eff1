use Rattle.al_engine_files.proofs.Headed.{texts_are_headed}
use Rattle.al_engine_files.proofs.laws.texts_are_headed.Goals as goal

pub returns : goal.returns
returns c = texts_are_headed
