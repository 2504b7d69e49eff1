-- Which reading a source has, each rule by itself.
use Rattle.std.specs.Prelude.{ℕ, ◌≡◌, ◌≤◌, ◌↔◌, List, Ok, Err}
use Rattle.al_base.specs.Files.{Texts}
use Rattle.al_lex.specs.declared.token.Token.{Token}
use Rattle.al_lex.specs.declared.token.LexFault.{LexFault}
use Rattle.al_lex.specs.Codes.{number_of}
use Rattle.al_lex.specs.Tokens.{lexed}
use Rattle.al_parse.specs.Faults.{IsSyntaxFaultAt}
use Rattle.al_tree_syntax.specs.Rules.{most}
use Rattle.al_tree_syntax.specs.UnitTrees.{CompilationUnitTree, tokens_of}
use Rattle.al_tree_syntax.specs.Nesting.{nesting}
use Rattle.al_tree.specs.Lexemes.{lexemes}
use Rattle.al_unit_graph.specs.Traces.{AreReadAlike}
use Rattle.al_unit.specs.Libraries.{library_of}
use Rattle.al_unit.specs.Readings.{Reading, reading_of, token_place}
use Rattle.al_unit.specs.Readings.Reading.{Sentence, Fails}

-- a source has this reading
pub data Reads (text : List ℕ) : Reading → Type 0 where
  -- its tokens are those of the tree, in which no more constructs are open at once than may be
  sentence : {unit : CompilationUnitTree} (tokens : List Token) → lexed text ≡ Ok tokens → tokens_of unit ≡ lexemes text tokens → nesting unit ≤ most → Reads text (Sentence unit)
  -- its first malformed lexeme
  malformed : (fault : LexFault) → lexed text ≡ Err fault → Reads text (Fails fault.place (number_of fault.code))
  -- the first token after the longest prefix that goes on to a unit
  no_sentence : (tokens : List Token) (n : ℕ) → lexed text ≡ Ok tokens → IsSyntaxFaultAt (lexemes text tokens) n → Reads text (Fails (token_place text tokens n) 101)

-- each source has the one reading that is computed
abbrev pub TextsAreRead : Type 0
TextsAreRead = (text : List ℕ) (reading : Reading) → (reading_of text ≡ reading) ↔ Reads text reading

-- equal sources are read alike in any two libraries of sources
abbrev pub TextsAreReadAlike : Type 0
TextsAreReadAlike = (old new : Texts) → AreReadAlike (library_of old) (library_of new)
