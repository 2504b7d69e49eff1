use Rattle.al_tree_grammar.proofs.Laws.{trees_are_unique}
use Rattle.al_tree_grammar.proofs.trees_are_unique.Goals as goal

pub returns : goal.returns
returns c = trees_are_unique
