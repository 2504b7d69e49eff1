use Rattle.al_tree_syntax.proofs.Laws.{constructs_placed}
use Rattle.al_tree_syntax.proofs.constructs_are_placed.Goals as goal

pub returns : goal.returns
returns c = constructs_placed
