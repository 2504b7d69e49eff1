use Rattle.al_meaning_code.proofs.Agreed.{operators_agree}
use Rattle.al_meaning_code.proofs.laws.operators_agree.Goals as goal

pub returns : goal.returns
returns c = operators_agree
