use Rattle.std.proofs.Common.{refl}
use Rattle.al_meaning.specs.Scalars.{applied}
use Rattle.al_meaning.specs.Expressions.{operated}
use Rattle.al_meaning.proofs.laws.exceptions_have_lines.Goals as goal

pub returns : goal.returns
unfolding applied operated
returns c = record { copies = refl; marks = refl; null_ranges = refl; divides = refl; ends = refl; accesses = refl }
