use Rattle.std.proofs.Common.{refl}
use Rattle.al_meaning.specs.Scalars.{applied}
use Rattle.al_meaning.proofs.laws.operators_give.Goals as goal

pub returns : goal.returns
unfolding applied
returns c = record { quotient = refl; remainder = refl; modulus = refl; negative = refl; power = refl; overflow = refl; zero_divisor = refl }
