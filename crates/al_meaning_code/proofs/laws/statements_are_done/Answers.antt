use Rattle.al_meaning_code.proofs.Families.{statements_are_done}
use Rattle.al_meaning_code.proofs.laws.statements_are_done.Goals as goal

pub returns : goal.returns
returns c = statements_are_done c.trees_tell_code.ensures
