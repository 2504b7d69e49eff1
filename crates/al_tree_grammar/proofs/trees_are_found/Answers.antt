use Rattle.al_tree_grammar.proofs.Laws.{trees_are_found}
use Rattle.al_tree_grammar.proofs.trees_are_found.Goals as goal

pub returns : goal.returns
returns c = trees_are_found
