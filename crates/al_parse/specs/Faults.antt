-- What a parse of a whole source says.
use Rattle.std.specs.Prelude.{ℕ, ◌≡◌, ◌-◌, ◌≤◌, List, length, Option, Some}
use Rattle.al_tree_grammar.specs.Grammar.{Lexeme, Sentence}
use Rattle.al_tree_grammar.specs.Growing.{fault_of}
use Rattle.al_tree_grammar.specs.Place.{IsFaultAt}
use Rattle.al_tree_syntax.specs.Rules.{grammar, most}
use Rattle.al_tree_syntax.specs.Units.{unit_rule}
use Rattle.al_tree_syntax.specs.UnitTrees.{CompilationUnitTree, tokens_of}
use Rattle.al_parse.specs.declared.stop.Stop.{Stop}
use Rattle.al_parse.specs.declared.stop.Stop.TheVariants.{Memory, Fault}
use Rattle.al_parse.specs.declared.parsing.ParseError.{ParseError}
use Rattle.al_parse.specs.declared.parsing.ParseError.TheVariants.{Syntax, NoMemory}

-- the lexemes are a compilation unit's, by the grammar
unfoldable pub IsUnit : List Lexeme → Type 0
IsUnit xs = Sentence grammar most unit_rule xs

-- how many lexemes are before the fault, if they are no compilation unit's
unfoldable pub syntax_fault_of : List Lexeme → Option ℕ
syntax_fault_of xs = fault_of grammar most unit_rule xs

-- So many lexemes go on to a compilation unit, and with the next one none does. The list is none itself.
unfoldable pub IsSyntaxFaultAt : List Lexeme → ℕ → Type 0
IsSyntaxFaultAt xs n = IsFaultAt grammar most unit_rule xs n

-- the tree has these lexemes, which are a compilation unit's
pub record IsTreeOf (u : CompilationUnitTree) (xs : List Lexeme) : Type 0 where
  pub tokens : tokens_of u ≡ xs
  pub unit : IsUnit xs

-- at is the one place of the lexemes' fault
pub record IsFaultOf (xs : List Lexeme) (at : ℕ) : Type 0 where
  pub found : syntax_fault_of xs ≡ Some at
  pub place : IsSyntaxFaultAt xs at

-- the error names the place of the fault; if the allocator refuses memory it says nothing
abbrev pub FaultOf : ParseError → List Lexeme → Type 0
FaultOf (Syntax f) xs = IsFaultOf xs f.at
FaultOf NoMemory xs = Unit {0}

-- reading stops for memory, or at the fault with so many lexemes left
abbrev pub Refuses : Stop → List Lexeme → Type 0
Refuses Memory xs = Unit {0}
Refuses (Fault left) xs = (left ≤ length xs) × (syntax_fault_of xs ≡ Some (length xs - left))
