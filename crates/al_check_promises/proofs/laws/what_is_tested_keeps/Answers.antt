use Rattle.al_check_promises.proofs.Kept.{tested_keeps}
use Rattle.al_check_promises.proofs.laws.what_is_tested_keeps.Goals as goal

pub returns : goal.returns
returns c = tested_keeps
