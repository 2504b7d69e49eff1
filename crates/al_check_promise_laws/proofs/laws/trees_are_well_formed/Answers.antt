use Rattle.al_check_promise_laws.proofs.WordLaws.{trees-are-well-formed}
use Rattle.al_check_promise_laws.proofs.laws.trees_are_well_formed.Goals as goal

pub returns : goal.returns
returns c = trees-are-well-formed
