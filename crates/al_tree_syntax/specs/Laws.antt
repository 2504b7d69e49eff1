-- What holds of the grammar.
use Rattle.std.specs.Prelude.{ℕ, Bool, true, ◌≡◌, ◌↔◌, List, Some, None}
use Rattle.al_tree_grammar.specs.Grammar.{Lexeme, Tree, lexemes_of, Sentence}
use Rattle.al_tree_grammar.specs.Uses.{uses}
use Rattle.al_tree_grammar.specs.Growing.{tree_of, fault_of}
use Rattle.al_tree_grammar.specs.Place.{IsFaultAt}
use Rattle.al_tree_syntax.specs.Symbols.{Symbol, number, symbol_at, is_labelled}
use Rattle.al_tree_syntax.specs.Constructs.{Construct, place, construct_at}
use Rattle.al_tree_syntax.specs.Units.{unit_rule}
use Rattle.al_tree_syntax.specs.Rules.{inside, grammar, most}

-- the trees of a compilation unit
abbrev pub UnitTree : Type 0
UnitTree = Tree grammar most unit_rule

abbrev pub unit_lexemes : UnitTree → List Lexeme
unit_lexemes x = lexemes_of grammar most unit_rule x

-- A list of lexemes is a unit's in at most one way.
abbrev pub UnitsAreUnique : Type 0
UnitsAreUnique = (x y : UnitTree) → unit_lexemes x ≡ unit_lexemes y → x ≡ y

-- The tree of a list of lexemes is the one that has these lexemes.
abbrev pub UnitsAreFound : Type 0
UnitsAreFound = (xs : List Lexeme) (x : UnitTree) → tree_of grammar most unit_rule xs ≡ Some x ↔ unit_lexemes x ≡ xs

-- A list of lexemes is a unit's, or it has a fault, at one place alone.
abbrev pub FaultsAreFound : Type 0
FaultsAreFound = (xs : List Lexeme) →
    (fault_of grammar most unit_rule xs ≡ None ↔ Sentence grammar most unit_rule xs)
    × ((n : ℕ) → fault_of grammar most unit_rule xs ≡ Some n ↔ IsFaultAt grammar most unit_rule xs n)

-- No two symbols have one number, as each is found by its number.
abbrev pub SymbolsAreNumbered : Type 0
SymbolsAreNumbered = (s : Symbol) → symbol_at (number s) ≡ s

-- No two constructs have one place, and the grammar has the inside of each at its place.
abbrev pub ConstructsArePlaced : Type 0
ConstructsArePlaced = (c : Construct) → construct_at (place c) ≡ c

-- the kind k has a label
abbrev pub has_label : ℕ → Bool
has_label k = is_labelled (symbol_at k)

-- Each rule uses the labelled symbols with a label, and all others without.
abbrev pub LexemesAreLabelled : Type 0
LexemesAreLabelled = ((c : Construct) → uses has_label (inside c) ≡ true) × (uses has_label unit_rule ≡ true)
