use Rattle.al_overload_readings.proofs.LawLemmas.{first_faults, missing_names, own_faults}
use Rattle.al_overload_readings.proofs.laws.first_faults_are_reported.Goals as goal

pub returns : goal.returns
returns c = record { missing = missing_names; first = first_faults; own = own_faults }
