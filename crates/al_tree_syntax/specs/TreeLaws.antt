-- The trees of compilation units as plain data, and the grammar's trees.
use Rattle.std.specs.Prelude.{ℕ, ◌≡◌, ◌≤◌, ◌↔◌, List, Option, Some, option_map}
use Rattle.al_tree_grammar.specs.Grammar.{Lexeme, Tree, lexemes_of, Sentence}
use Rattle.al_tree_grammar.specs.Growing.{tree_of}
use Rattle.al_tree_syntax.specs.Units.{unit_rule}
use Rattle.al_tree_syntax.specs.Rules.{grammar, most}
use Rattle.al_tree_syntax.specs.UnitTrees.{CompilationUnitTree, tokens_of}
use Rattle.al_tree_syntax.specs.UnitsFrom.{unit_from}
use Rattle.al_tree_syntax.specs.Nesting.{nesting}

-- the tree of a list of lexemes, if it is a sentence
unfoldable pub unit_of : List Lexeme → Option CompilationUnitTree
unit_of xs = option_map (unit_from most) (tree_of grammar most unit_rule xs)

-- A tree has the lexemes of the grammar's tree that it stands for.
abbrev pub LexemesStay : Type 0
LexemesStay = (d : ℕ) (x : Tree grammar d unit_rule) → tokens_of (unit_from d x) ≡ lexemes_of grammar d unit_rule x

-- No two trees have one list of lexemes that is a sentence, however deep it nests.
abbrev pub TreesAreUnique : Type 0
TreesAreUnique = (d : ℕ) (u v : CompilationUnitTree) → Sentence grammar d unit_rule (tokens_of u) → tokens_of u ≡ tokens_of v → u ≡ v

-- The tree of a list of lexemes is the one that has them.
abbrev pub TreesAreFound : Type 0
TreesAreFound = (xs : List Lexeme) (u : CompilationUnitTree) → unit_of xs ≡ Some u ↔ (tokens_of u ≡ xs) × (nesting u ≤ most)

-- The sentences are the lists of lexemes of the trees.
abbrev pub SentencesAreTrees : Type 0
SentencesAreTrees = (xs : List Lexeme) → Sentence grammar most unit_rule xs ↔ ((u : CompilationUnitTree) × (tokens_of u ≡ xs) × (nesting u ≤ most))
