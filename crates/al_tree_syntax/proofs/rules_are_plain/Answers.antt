use Rattle.al_tree_syntax.proofs.Plain.{rules_plain}
use Rattle.al_tree_syntax.proofs.rules_are_plain.Goals as goal

pub returns : goal.returns
returns c = rules_plain
