use Rattle.al_meaning_code.proofs.Given.{values_are_given}
use Rattle.al_meaning_code.proofs.laws.values_are_given.Goals as goal

pub returns : goal.returns
returns c = values_are_given
