use Rattle.al_tree_grammar.specs.Grammar.{each}
use Rattle.al_tree_grammar.specs.Grammar.Rule.{Many}
use Rattle.al_parse.proofs.Loops.{Kept}
use Rattle.al_tree_syntax.specs.DeclarationTrees.{protected_component_tokens}
use Rattle.al_tree_syntax.specs.Declarations.{element_rule}
use Rattle.al_tree.specs.DeclarationViews.{protected_component_model}
use Rattle.al_tree.specs.Lexemes.{lexemes}
use Rattle.std.proofs.Common.{length, map}
use Rattle.al_parse.proofs.specification.protected_components.Given as goal

abbrev pub invariant-more : goal.invariant-more
invariant-more l = Kept (each protected_component_tokens (map protected_component_model l.items.items)) (lexemes l.source l.rest) (lexemes l.source l.tokens) l.depth (Many element_rule) (Many element_rule)

abbrev pub decreases-more : goal.decreases-more
decreases-more l = length l.rest
