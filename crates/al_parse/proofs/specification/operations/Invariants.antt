use Rattle.al_tree_grammar.specs.Grammar.{each}
use Rattle.al_tree_grammar.specs.Grammar.Rule.{Many}
use Rattle.al_parse.proofs.Loops.{Kept}
use Rattle.al_tree_syntax.specs.DeclarationTrees.{protected_operation_tokens}
use Rattle.al_tree_syntax.specs.Declarations.{operation_rule}
use Rattle.al_tree.specs.DeclarationViews.{protected_operation_model}
use Rattle.al_tree.specs.Lexemes.{lexemes}
use Rattle.std.proofs.Common.{length, map}
use Rattle.al_parse.proofs.specification.operations.Given as goal

abbrev pub invariant-more : goal.invariant-more
invariant-more l = Kept (each protected_operation_tokens (map protected_operation_model l.items.items)) (lexemes l.source l.rest) (lexemes l.source l.tokens) l.depth (Many operation_rule) (Many operation_rule)

abbrev pub decreases-more : goal.decreases-more
decreases-more l = length l.rest
