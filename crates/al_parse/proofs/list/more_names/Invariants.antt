use Rattle.std.proofs.Common.{◌∷◌, length, map}
use Rattle.al_tree_grammar.specs.Grammar.{each}
use Rattle.al_tree_grammar.specs.Grammar.Rule.{Many}
use Rattle.al_tree_syntax.specs.DeclarationTrees.{compound_tokens}
use Rattle.al_tree_syntax.specs.Expressions.{compound_name_rule}
use Rattle.al_tree_syntax.specs.Notation.{◌⨾◌, the}
use Rattle.al_tree_syntax.specs.Symbols.Symbol.{Comma}
use Rattle.al_tree_syntax.specs.Words.{word}
use Rattle.al_tree.specs.DeclarationViews.{compound_model}
use Rattle.al_tree.specs.Lexemes.{lexemes}
use Rattle.al_parse.proofs.Loops.{Kept}
use Rattle.al_parse.proofs.list.more_names.Given as goal

abbrev pub invariant-more : goal.invariant-more
invariant-more l =
    let names = Many (the Comma ⨾ compound_name_rule) in
    Kept (each (λ n. word Comma ∷ compound_tokens n) (map compound_model l.names.items)) (lexemes l.source l.rest) (lexemes l.source l.tokens) 0 names names

abbrev pub decreases-more : goal.decreases-more
decreases-more l = length l.rest
