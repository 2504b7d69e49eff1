use Rattle.al_tree_syntax.proofs.TreeLaws.{sentences_are_trees}
use Rattle.al_tree_syntax.proofs.sentences_are_trees.Goals as goal

pub returns : goal.returns
returns c = sentences_are_trees
