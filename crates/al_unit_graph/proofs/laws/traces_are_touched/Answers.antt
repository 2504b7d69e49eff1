use Rattle.al_unit_graph.proofs.TraceLemmas as lemmas
use Rattle.al_unit_graph.proofs.laws.traces_are_touched.Goals as goal

pub returns : goal.returns
returns c = lemmas.traces_are_touched
