use Rattle.al_unit_graph.proofs.FaultLemmas as lemmas
use Rattle.al_unit_graph.proofs.laws.name_faults_are_misnames.Goals as goal

pub returns : goal.returns
returns c = lemmas.name_faults_are_misnames
