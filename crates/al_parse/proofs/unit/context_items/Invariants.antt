use Rattle.al_tree_grammar.specs.Grammar.{each}
use Rattle.al_tree_grammar.specs.Grammar.Rule.{Many}
use Rattle.al_parse.proofs.Loops.{Kept}
use Rattle.al_tree_syntax.specs.UnitTrees.{context_tokens}
use Rattle.al_tree_syntax.specs.Units.{context_rule}
use Rattle.al_tree.specs.Lexemes.{lexemes}
use Rattle.al_tree.specs.UnitViews.{context_model}
use Rattle.std.proofs.Common.{length, map}
use Rattle.al_parse.proofs.unit.context_items.Given as goal

abbrev pub invariant-more : goal.invariant-more
invariant-more l = Kept (each context_tokens (map context_model l.items.items)) (lexemes l.source l.rest) (lexemes l.source l.tokens) l.depth (Many context_rule) (Many context_rule)

abbrev pub decreases-more : goal.decreases-more
decreases-more l = length l.rest
