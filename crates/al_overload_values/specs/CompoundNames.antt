-- Names of declarations and marks as the expressions that they are written like (ARM 4.1.3).
use Rattle.std.specs.Prelude.{fold}
use Rattle.al_tree_grammar.specs.Grammar.{Label}
use Rattle.al_tree_syntax.specs.DeclarationTrees.{CompoundNameTree}
use Rattle.al_tree_syntax.specs.ExpressionTrees.{ExpressionTree, ExpressionTree as e, PartTree as part}

-- with a selector after it
abbrev pub with_selector : ExpressionTree → Label → ExpressionTree
with_selector x l = e.Longer x (part.Selector l)

unfoldable pub name_text : CompoundNameTree → ExpressionTree
name_text n = fold with_selector (e.Name n.first) n.selectors
