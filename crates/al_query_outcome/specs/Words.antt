-- The words of a source.
use Rattle.std.specs.Prelude.{ℕ, List, [], map, Result, Ok, Err}
use Rattle.std.specs.Char.{to_ascii_lowercase}
use Rattle.std.specs.Str.{bytes_eq}
use Rattle.indexmap.specs.IndexSet.{insert_all}
use Rattle.al_lex.specs.Tokens.{lexed}
use Rattle.al_lex.specs.declared.token.LexFault.{LexFault}
use Rattle.al_lex.specs.declared.token.Token.{Token}
use Rattle.al_tree.specs.Spellings.{text_of}

-- the spelling of a token, in lower case
abbrev pub word_of : List ℕ → Token → List ℕ
word_of text t = map to_ascii_lowercase (text_of text t.span)

abbrev pub words_if : List ℕ → Result (List Token) LexFault → List (List ℕ)
words_if text (Ok tokens) = insert_all bytes_eq [] (map (word_of text) tokens)
words_if text (Err fault) = []

-- each once, in the order of the source; none of a source with a lexical fault
unfoldable pub words_of : List ℕ → List (List ℕ)
words_of text = words_if text (lexed text)
