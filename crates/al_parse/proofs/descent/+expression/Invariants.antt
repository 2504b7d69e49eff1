use Rattle.std.proofs.Common.{◌∷◌, ◌++◌, ◌+◌, ◌*◌, suc, length}
use Rattle.al_tree_grammar.specs.Grammar.{each}
use Rattle.al_tree_grammar.specs.Grammar.Rule.{Many}
use Rattle.al_tree_syntax.specs.ExpressionTrees.{expression_tokens}
use Rattle.al_tree_syntax.specs.Expressions.{expression_rule, name_rule}
use Rattle.al_tree_syntax.specs.Notation.{◌⨾◌, the}
use Rattle.al_tree_syntax.specs.Symbols.Symbol.{Comma}
use Rattle.al_tree_syntax.specs.Words.{word}
use Rattle.al_tree.specs.ExpressionViews.{expression_model}
use Rattle.al_tree.specs.Lexemes.{lexemes}
use Rattle.al_parse.specs.Chains.{weight}
use Rattle.al_parse.specs.Names.{name_tail_rule}
use Rattle.al_parse.proofs.Loops.{Kept}
use Rattle.al_parse.proofs.Chained.{Linked, Joined}
use Rattle.al_parse.proofs.descent.+expression.Given as goal

abbrev pub decreases-expressions : goal.decreases-expressions
decreases-expressions l = 30 * l.depth + 27

abbrev pub decreases-more_expressions : goal.decreases-more_expressions
decreases-more_expressions l = 30 * l.depth + 26

abbrev pub decreases-expression : goal.decreases-expression
decreases-expression l = 30 * l.depth + 25

abbrev pub decreases-after_operator : goal.decreases-after_operator
decreases-after_operator l = 30 * l.depth + 22

abbrev pub decreases-after_words : goal.decreases-after_words
decreases-after_words l = 30 * l.depth + 21

abbrev pub decreases-after_word : goal.decreases-after_word
decreases-after_word l = 30 * l.depth + 20

abbrev pub decreases-relation : goal.decreases-relation
decreases-relation l = 30 * l.depth + 19

abbrev pub decreases-membership : goal.decreases-membership
decreases-membership l = 30 * l.depth + 18

abbrev pub decreases-upper_bound : goal.decreases-upper_bound
decreases-upper_bound l = 30 * l.depth + 17

abbrev pub decreases-simple_expression : goal.decreases-simple_expression
decreases-simple_expression l = 30 * l.depth + 16

abbrev pub decreases-simple : goal.decreases-simple
decreases-simple l = 30 * l.depth + 15

abbrev pub decreases-term : goal.decreases-term
decreases-term l = 30 * l.depth + 12

abbrev pub decreases-factor : goal.decreases-factor
decreases-factor l = 30 * l.depth + 9

abbrev pub decreases-primary : goal.decreases-primary
decreases-primary l = 30 * l.depth + 8

abbrev pub decreases-name : goal.decreases-name
decreases-name l = 30 * l.depth + 7

abbrev pub decreases-parentheses : goal.decreases-parentheses
decreases-parentheses l = 30 * l.depth + 6

abbrev pub decreases-object_name : goal.decreases-object_name
decreases-object_name l = 30 * l.depth + 5

abbrev pub decreases-part : goal.decreases-part
decreases-part l = 30 * l.depth + 4

abbrev pub decreases-arguments : goal.decreases-arguments
decreases-arguments l = 30 * l.depth + 3

abbrev pub decreases-chain : goal.decreases-chain
decreases-chain l = 30 * l.depth + suc (weight l.links)

abbrev pub decreases-link : goal.decreases-link
decreases-link l = 30 * l.depth + weight l.links

abbrev pub invariant-chain-more : goal.invariant-chain-more
invariant-chain-more l = Linked l.links l.depth (expression_tokens (expression_model l.initial.whole)) (lexemes l.source l.tokens) (expression_model l.whole) (lexemes l.source l.rest)

abbrev pub decreases-chain-more : goal.decreases-chain-more
decreases-chain-more l = length l.rest

abbrev pub invariant-object_name-more : goal.invariant-object_name-more
invariant-object_name-more l = Joined name_rule name_tail_rule l.depth (lexemes l.source l.tokens) (lexemes l.source l.tokens) (expression_model l.name) (lexemes l.source l.rest)

abbrev pub decreases-object_name-more : goal.decreases-object_name-more
decreases-object_name-more l = length l.rest

abbrev pub invariant-more_expressions-more : goal.invariant-more_expressions-more
invariant-more_expressions-more l = Kept (each (λ e. word Comma ∷ expression_tokens (expression_model e)) l.expressions.items) (lexemes l.source l.rest) (lexemes l.source l.tokens) l.depth (Many (the Comma ⨾ expression_rule)) (Many (the Comma ⨾ expression_rule))

abbrev pub decreases-more_expressions-more : goal.decreases-more_expressions-more
decreases-more_expressions-more l = length l.rest
