use Rattle.al_tree_syntax.proofs.TreeLaws.{trees_found}
use Rattle.al_tree_syntax.proofs.trees_are_found.Goals as goal

pub returns : goal.returns
returns c = trees_found
