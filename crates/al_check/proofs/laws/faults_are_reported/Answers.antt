use Rattle.al_check.proofs.Verdicts.{item_told, start_told}
use Rattle.al_check.proofs.laws.faults_are_reported.Goals as goal

pub returns-clause-start : goal.returns-clause-start
returns-clause-start c = start_told

pub returns-clause-item : goal.returns-clause-item
returns-clause-item c = item_told
