use Rattle.al_unit.proofs.ReadingLaws as laws
use Rattle.al_unit.proofs.laws.texts_are_read.Goals as goal

pub returns : goal.returns
returns c = laws.texts_are_read c.trees_are_found.ensures c.sentences_are_trees.ensures c.faults_are_found.ensures
