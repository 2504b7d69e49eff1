use Rattle.al_meaning_code.proofs.Converse.{exceptions_are_meant}
use Rattle.al_meaning_code.proofs.laws.exceptions_are_meant.Goals as goal

pub returns : goal.returns
returns c = exceptions_are_meant c.trees_tell_code.ensures
