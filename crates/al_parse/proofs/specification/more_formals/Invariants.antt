use Rattle.al_tree_grammar.specs.Grammar.{each}
use Rattle.al_tree_grammar.specs.Grammar.Lexeme.{Fixed}
use Rattle.al_tree_grammar.specs.Grammar.Rule.{Many, One, Seq}
use Rattle.al_parse.proofs.Loops.{Kept}
use Rattle.al_tree_syntax.specs.DeclarationTrees.{formal_tokens}
use Rattle.al_tree_syntax.specs.Declarations.{formal_rule}
use Rattle.al_tree.specs.DeclarationViews.{formal_model}
use Rattle.al_tree.specs.Lexemes.{lexemes}
use Rattle.std.proofs.Common.{length, map, ◌∷◌}
use Rattle.al_parse.proofs.specification.more_formals.Given as goal

abbrev pub invariant-more : goal.invariant-more
invariant-more l = Kept (each (λ y. Fixed 14 ∷ formal_tokens y) (map formal_model l.items.items)) (lexemes l.source l.rest) (lexemes l.source l.tokens) 0 (Many (Seq (One 14) formal_rule)) (Many (Seq (One 14) formal_rule))

abbrev pub decreases-more : goal.decreases-more
decreases-more l = length l.rest
