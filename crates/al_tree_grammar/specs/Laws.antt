-- What holds of every grammar that the next lexeme alone decides.
use Rattle.std.specs.Prelude.{ℕ, ◌≡◌, ◌↔◌, true, false, List, Some, None}
use Rattle.al_tree_grammar.specs.Grammar.{Lexeme, Rule, Grammar, Tree, lexemes_of, Sentence}
use Rattle.al_tree_grammar.specs.Reading.{is_clear, IsClosed}
use Rattle.al_tree_grammar.specs.Growing.{tree_of, fault_of}
use Rattle.al_tree_grammar.specs.Place.{IsFaultAt}

-- Of such a grammar's trees, at most d deep, no two have one list of lexemes.
abbrev pub TreesAreUnique : Type 0
TreesAreUnique = (g : Grammar) → IsClosed g → (d : ℕ) (a : Rule) → is_clear false a ≡ true
    → (x y : Tree g d a) → lexemes_of g d a x ≡ lexemes_of g d a y → x ≡ y

-- The tree of a list of lexemes is the one that has these lexemes.
abbrev pub TreesAreFound : Type 0
TreesAreFound = (g : Grammar) → IsClosed g → (d : ℕ) (a : Rule) → is_clear false a ≡ true
    → (xs : List Lexeme) (x : Tree g d a) → tree_of g d a xs ≡ Some x ↔ lexemes_of g d a x ≡ xs

-- A list of lexemes is a sentence, or it has a fault, at one place alone. A rule has a tree at all.
abbrev pub FaultsAreFound : Type 0
FaultsAreFound = (g : Grammar) → IsClosed g → (d : ℕ) (a : Rule) → is_clear false a ≡ true → Tree g d a
    → (xs : List Lexeme) → (fault_of g d a xs ≡ None ↔ Sentence g d a xs) × ((n : ℕ) → fault_of g d a xs ≡ Some n ↔ IsFaultAt g d a xs n)
