-- Lexemes by their symbols.
use Rattle.al_tree_grammar.specs.Grammar.{Label, Lexeme}
use Rattle.al_tree_grammar.specs.Grammar.Lexeme.{Fixed, Named}
use Rattle.al_tree_syntax.specs.Symbols.{Symbol, number}

-- a word or delimiter that has no label
abbrev pub word : Symbol → Lexeme
word s = Fixed (number s)

-- an identifier, a literal, or a word whose place is kept
abbrev pub labelled : Symbol → Label → Lexeme
labelled s l = Named (number s) l
