use Rattle.al_static.proofs.DivisionLemmas.{follow_the_divisor}
use Rattle.al_static.proofs.laws.moduli_follow_the_divisor.Goals as goal

pub returns : goal.returns
returns c = follow_the_divisor
