use Rattle.al_unit.proofs.LibraryLemmas as lemmas
use Rattle.al_unit.proofs.laws.texts_are_read_alike.Goals as goal

pub returns : goal.returns
returns c = lemmas.texts_are_read_alike
