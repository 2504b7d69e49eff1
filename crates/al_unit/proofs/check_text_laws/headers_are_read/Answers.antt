use Rattle.al_unit.proofs.CheckTextReading.{headers_read}
use Rattle.al_unit.proofs.check_text_laws.headers_are_read.Goals as goal

pub returns : goal.returns
returns c = headers_read
