use Rattle.al_tree_grammar.proofs.Laws.{faults_are_found}
use Rattle.al_tree_grammar.proofs.faults_are_found.Goals as goal

pub returns : goal.returns
returns c = faults_are_found
