use Rattle.al_tree_grammar.specs.Grammar.{each}
use Rattle.al_tree_grammar.specs.Grammar.Rule.{Many}
use Rattle.al_parse.proofs.Loops.{Kept}
use Rattle.al_tree_syntax.specs.DeclarationTrees.{component_tokens}
use Rattle.al_tree_syntax.specs.Declarations.{component_rule}
use Rattle.al_tree.specs.DeclarationViews.{component_model}
use Rattle.al_tree.specs.Lexemes.{lexemes}
use Rattle.std.proofs.Common.{length, map}
use Rattle.al_parse.proofs.declaration.more_components.Given as goal

abbrev pub invariant-more : goal.invariant-more
invariant-more l = Kept (each component_tokens (map component_model l.items.items)) (lexemes l.source l.rest) (lexemes l.source l.tokens) l.depth (Many component_rule) (Many component_rule)

abbrev pub decreases-more : goal.decreases-more
decreases-more l = length l.rest
