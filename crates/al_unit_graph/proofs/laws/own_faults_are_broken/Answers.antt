use Rattle.al_unit_graph.proofs.FaultLemmas as lemmas
use Rattle.al_unit_graph.proofs.laws.own_faults_are_broken.Goals as goal

pub returns : goal.returns
returns c = lemmas.own_faults_are_broken
