use Rattle.al_check_promises.proofs.Kept.{faults_told, not_yet_told}
use Rattle.al_check_promises.proofs.laws.faults_are_reported.Goals as goal

pub returns-clause-faults : goal.returns-clause-faults
returns-clause-faults c = faults_told

pub returns-clause-not_yet : goal.returns-clause-not_yet
returns-clause-not_yet c = not_yet_told
