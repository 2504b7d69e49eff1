use Rattle.al_tree_syntax.proofs.Laws.{units_unique}
use Rattle.al_tree_syntax.proofs.units_are_unique.Goals as goal

pub returns : goal.returns
returns c = units_unique
