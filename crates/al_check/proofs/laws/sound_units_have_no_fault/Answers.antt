use Rattle.al_check.proofs.Verdicts.{sound_faultless}
use Rattle.al_check.proofs.laws.sound_units_have_no_fault.Goals as goal

pub returns : goal.returns
returns c = sound_faultless
