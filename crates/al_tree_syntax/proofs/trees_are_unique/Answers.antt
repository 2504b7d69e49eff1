use Rattle.al_tree_syntax.proofs.TreeLaws.{trees_unique}
use Rattle.al_tree_syntax.proofs.trees_are_unique.Goals as goal

pub returns : goal.returns
returns c = trees_unique
