use Rattle.al_overload.proofs.MeaningLemmas.{faults_tell}
use Rattle.al_overload.proofs.laws.faults_tell_why.Goals as goal

pub returns : goal.returns
returns c = faults_tell
