use Rattle.std.proofs.Common.{refl}
use Rattle.al_meaning.specs.Scalars.{applied}
use Rattle.al_meaning.specs.Expressions.{operated}
use Rattle.al_meaning.proofs.laws.calls_return.Goals as goal

pub returns : goal.returns
unfolding applied operated
returns c = record { elaborated = refl; recursion = refl; twice_named = refl }
