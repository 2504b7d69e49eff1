use Rattle.al_tree_grammar.specs.Grammar.{each}
use Rattle.al_tree_grammar.specs.Grammar.Lexeme.{Fixed}
use Rattle.al_tree_grammar.specs.Grammar.Rule.{Many, One, Seq}
use Rattle.al_parse.proofs.Loops.{Kept}
use Rattle.al_tree_syntax.specs.StatementTrees.{choice_tokens}
use Rattle.al_tree_syntax.specs.Statements.{choice_rule}
use Rattle.al_tree.specs.Lexemes.{lexemes}
use Rattle.al_tree.specs.StatementViews.{choice_model}
use Rattle.std.proofs.Common.{length, ◌∷◌}
use Rattle.al_parse.proofs.statement.more_choices.Given as goal

abbrev pub invariant-more : goal.invariant-more
invariant-more l = Kept (each (λ y. Fixed 18 ∷ choice_tokens (choice_model y)) l.items.items) (lexemes l.source l.rest) (lexemes l.source l.tokens) l.depth (Many (Seq (One 18) choice_rule)) (Many (Seq (One 18) choice_rule))

abbrev pub decreases-more : goal.decreases-more
decreases-more l = length l.rest
