use Rattle.std.proofs.Common.{refl}
use Rattle.al_meaning.specs.Scalars.{applied}
use Rattle.al_meaning.specs.Expressions.{operated}
use Rattle.al_meaning.proofs.laws.loops_end.Goals as goal

pub returns : goal.returns
unfolding applied operated
returns c = record { counts = refl; exits = refl; chooses = refl }
