use Rattle.al_tree_syntax.proofs.TreeLaws.{lexemes_stay}
use Rattle.al_tree_syntax.proofs.lexemes_stay.Goals as goal

pub returns : goal.returns
returns c = lexemes_stay
