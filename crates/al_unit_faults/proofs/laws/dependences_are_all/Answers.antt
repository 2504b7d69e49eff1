use Rattle.al_unit_faults.proofs.CycleLemmas as lemmas
use Rattle.al_unit_faults.proofs.laws.dependences_are_all.Goals as goal

pub returns : goal.returns
returns c = lemmas.dependences_are_all
