use Rattle.al_tree_syntax.proofs.Labels.{lexemes_labelled}
use Rattle.al_tree_syntax.proofs.lexemes_are_labelled.Goals as goal

pub returns : goal.returns
returns c = lexemes_labelled
