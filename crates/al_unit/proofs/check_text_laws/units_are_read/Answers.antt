use Rattle.al_unit.proofs.CheckTextReading.{units_read}
use Rattle.al_unit.proofs.check_text_laws.units_are_read.Goals as goal

pub returns : goal.returns
returns c = units_read
