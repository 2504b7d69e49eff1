use Rattle.al_meaning_code.proofs.Premises.{premises_are_met}
use Rattle.al_meaning_code.proofs.laws.premises_are_met.Goals as goal

pub returns : goal.returns
returns c = premises_are_met
