use Rattle.al_meaning_code.proofs.Families.{calls_are_done}
use Rattle.al_meaning_code.proofs.laws.calls_are_done.Goals as goal

pub returns : goal.returns
returns c = calls_are_done c.trees_tell_code.ensures
