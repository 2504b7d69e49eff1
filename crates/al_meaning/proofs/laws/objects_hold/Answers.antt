use Rattle.std.proofs.Common.{refl}
use Rattle.al_meaning.specs.Scalars.{applied}
use Rattle.al_meaning.specs.Expressions.{operated}
use Rattle.al_meaning.proofs.laws.objects_hold.Goals as goal

pub returns : goal.returns
unfolding applied operated
returns c = record { copied = refl; kept = refl; listed = refl; filled = refl; differ = refl; agree = refl; declares = refl; beyond_bounds = refl }
