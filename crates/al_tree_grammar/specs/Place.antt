-- The place at which a list of lexemes stops being the prefix of a sentence.
use Rattle.std.specs.Prelude.{ℕ, ◌+◌, ◌≤◌, ◌<◌, List, ◌++◌, length, take}
use Rattle.al_tree_grammar.specs.Grammar.{Lexeme, Rule, Grammar, Sentence}

-- The first n lexemes go on to a sentence, and with the next one none does. The list is no sentence itself.
pub record IsFaultAt (g : Grammar) (d : ℕ) (a : Rule) (xs : List Lexeme) (n : ℕ) : Type 0 where
  pub within : n ≤ length xs
  pub goes_on : (rest : List Lexeme) × Sentence g d a (take n xs ++ rest)
  pub no_further : n < length xs → (rest : List Lexeme) → Sentence g d a (take (n + 1) xs ++ rest) → ⊥
  pub no_sentence : Sentence g d a xs → ⊥
