use Rattle.al_unit_faults.proofs.SoundUnits.{all_there}
use Rattle.al_unit_faults.proofs.order_laws.faultless_units_are_there.Goals as goal

pub returns : goal.returns
returns c = all_there
