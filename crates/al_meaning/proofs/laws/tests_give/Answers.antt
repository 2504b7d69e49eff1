use Rattle.std.proofs.Common.{refl}
use Rattle.al_meaning.specs.Scalars.{applied, stepped}
use Rattle.al_meaning.specs.Expressions.{operated, decided}
use Rattle.al_meaning.proofs.laws.tests_give.Goals as goal

pub returns : goal.returns
unfolding applied operated decided stepped
returns c = record { outside = refl; not_inside = refl; inside = refl; or_else = refl; and_then = refl; successor = refl; predecessor = refl; leaves_out = refl }
