use Rattle.std.proofs.Common.{◌++◌, length}
use Rattle.al_tree_syntax.specs.Expressions.{name_rest_rule}
use Rattle.al_tree_syntax.specs.ExpressionTrees.{expression_tokens}
use Rattle.al_tree.specs.ExpressionViews.{expression_model}
use Rattle.al_tree.specs.Lexemes.{lexemes}
use Rattle.al_parse.proofs.Chained.{Joined}
use Rattle.al_parse.proofs.descent.name_from.Given as goal

abbrev pub invariant-more : goal.invariant-more
invariant-more l = Joined name_rest_rule name_rest_rule l.depth (expression_tokens (expression_model l.initial.name) ++ lexemes l.source l.tokens) (lexemes l.source l.tokens) (expression_model l.name) (lexemes l.source l.rest)

abbrev pub decreases-more : goal.decreases-more
decreases-more l = length l.rest
