use Rattle.al_check_promise_laws.proofs.TreeUnits.{trees-are-the-units}
use Rattle.al_check_promise_laws.proofs.laws.trees_are_the_units.Goals as goal

pub returns : goal.returns
returns c = trees-are-the-units
