-- What the source in a file is.
use Rattle.std.specs.Prelude.{ℕ, List, Option, Some, None, Result, Ok, Err, slice_get, unwrap_or, option_map}
use Rattle.al_base.specs.declared.place.Place.{Place}
use Rattle.al_lex.specs.declared.token.Token.{Token}
use Rattle.al_lex.specs.declared.token.LexFault.{LexFault}
use Rattle.al_lex.specs.Codes.{number_of}
use Rattle.al_lex.specs.Tokens.{lexed, end_place_of}
use Rattle.al_parse.specs.Faults.{syntax_fault_of}
use Rattle.al_tree_syntax.specs.UnitTrees.{CompilationUnitTree}
use Rattle.al_tree_syntax.specs.TreeLaws.{unit_of}
use Rattle.al_tree.specs.Lexemes.{lexemes}

-- a compilation unit; or no compilation unit, with the place and the number of the first lexical fault, or else of the syntax fault
pub data Reading : Type 0 where
  Sentence : CompilationUnitTree → Reading
  Fails : Place → ℕ → Reading

-- the compilation unit, if it is one
abbrev pub unit_read : Reading → Option CompilationUnitTree
unit_read (Sentence unit) = Some unit
unit_read (Fails place code) = None

-- the place of a token; after the last one, the end of the source
abbrev pub token_place : List ℕ → List Token → ℕ → Place
token_place text tokens n = unwrap_or (option_map (λ t. t.span.place) (slice_get tokens n)) (end_place_of text)

abbrev pub by_unit : List ℕ → List Token → Option CompilationUnitTree → Reading
by_unit text tokens (Some unit) = Sentence unit
by_unit text tokens None = Fails (token_place text tokens (unwrap_or (syntax_fault_of (lexemes text tokens)) 0)) 101

abbrev pub by_tokens : List ℕ → Result (List Token) LexFault → Reading
by_tokens text (Ok tokens) = by_unit text tokens (unit_of (lexemes text tokens))
by_tokens text (Err fault) = Fails fault.place (number_of fault.code)

unfoldable pub reading_of : List ℕ → Reading
reading_of text = by_tokens text (lexed text)
