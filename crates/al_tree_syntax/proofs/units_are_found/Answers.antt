use Rattle.al_tree_syntax.proofs.Laws.{units_found}
use Rattle.al_tree_syntax.proofs.units_are_found.Goals as goal

pub returns : goal.returns
returns c = units_found
