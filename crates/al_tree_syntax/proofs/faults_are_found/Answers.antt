use Rattle.al_tree_syntax.proofs.Laws.{faults_found}
use Rattle.al_tree_syntax.proofs.faults_are_found.Goals as goal

pub returns : goal.returns
returns c = faults_found
