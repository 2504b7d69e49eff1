use Rattle.al_unit_faults.proofs.LawLemmas as lemmas
use Rattle.al_unit_faults.proofs.laws.graph_faults_ascend.Goals as goal

pub returns : goal.returns
returns c = lemmas.graph_faults_ascend
