use Rattle.al_unit_faults.proofs.PartLemmas as lemmas
use Rattle.al_unit_faults.proofs.laws.parts_are_reported.Goals as goal

pub returns : goal.returns
returns c = lemmas.parts_are_reported
