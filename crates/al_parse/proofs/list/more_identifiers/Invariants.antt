use Rattle.std.proofs.Common.{length, map}
use Rattle.al_tree_grammar.specs.Grammar.Rule.{Many, One, Seq}
use Rattle.al_tree_syntax.specs.DeclarationTrees.{after}
use Rattle.al_tree_syntax.specs.Expressions.{identifier_rule}
use Rattle.al_tree_syntax.specs.Symbols.{number}
use Rattle.al_tree.specs.Lexemes.{identifier_label, lexemes}
use Rattle.al_tree.specs.Symbols.{symbol_model}
use Rattle.al_parse.proofs.Loops.{Kept}
use Rattle.al_parse.proofs.list.more_identifiers.Given as goal

abbrev pub invariant-more : goal.invariant-more
invariant-more l =
    let items = Many (Seq (One (number (symbol_model l.separator))) identifier_rule) in
    Kept (after (symbol_model l.separator) (map identifier_label l.others.items)) (lexemes l.source l.rest) (lexemes l.source l.tokens) 0 items items

abbrev pub decreases-more : goal.decreases-more
decreases-more l = length l.rest
