use Rattle.al_tree_syntax.proofs.Laws.{symbols_numbered}
use Rattle.al_tree_syntax.proofs.symbols_are_numbered.Goals as goal

pub returns : goal.returns
returns c = symbols_numbered
