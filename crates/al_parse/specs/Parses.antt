-- What a parse function gives.
use Rattle.std.specs.Prelude.{false, ℕ, ◌≡◌, ◌+◌, List, [], ◌∷◌, ◌++◌, length, Result, Ok, Err}
use Rattle.al_tree_grammar.specs.Grammar.{Label, Lexeme, Rule}
use Rattle.al_tree_grammar.specs.Grammar.Lexeme.{Fixed, Named}
use Rattle.al_tree_grammar.specs.Grammar.Rule.{Nest, Begun}
use Rattle.al_tree_grammar.specs.Reading.{Read, begins, read}
use Rattle.al_lex.specs.declared.token.Token.{Token}
use Rattle.al_tree_syntax.specs.Rules.{grammar}
use Rattle.al_tree_syntax.specs.Symbols.{Symbol, number}
use Rattle.al_tree.specs.Lexemes.{lexemes}
use Rattle.al_tree.specs.Symbols.{symbol_of}
use Rattle.al_parse.specs.declared.stop.Stop.{Stop}
use Rattle.al_parse.specs.declared.stop.Stop.TheVariants.{Memory, Fault}

abbrev pub Lexemes : Type 0
Lexemes = List Lexeme

-- what is left if at most d constructs may be open
abbrev pub reading : ℕ → Rule → Lexemes → Read
reading d a xs = read grammar d a xs

-- What was read is before the rest, and reading goes on there. At a fault reading stops there, with so many lexemes left.
abbrev pub Took : Lexemes → Lexemes → Lexemes → Read → Type 0
Took front rest xs read = (xs ≡ front ++ rest) × (read ≡ Ok rest)

abbrev pub Stops : Stop → Read → Type 0
Stops Memory read = Unit {0}
Stops (Fault left) read = (u : Lexemes) × (read ≡ Err u) × (length u ≡ left)

-- what was taken and what is left, of a result
abbrev pub Gives : {X : Type 0} → (X → Lexemes) → (X → Lexemes) → Result X Stop → Lexemes → Read → Type 0
Gives front rest (Ok x) xs read = Took (front x) (rest x) xs read
Gives front rest (Err e) xs read = Stops e read

-- what was taken and what is left, of a result, after what was taken before
abbrev pub Behind : {X : Type 0} → Lexemes → (X → Lexemes) → (X → Lexemes) → Result X Stop → Lexemes → Read → Type 0
Behind before front rest (Ok x) xs read = (before ++ xs ≡ front x ++ rest x) × (read ≡ Ok (rest x))
Behind before front rest (Err e) xs read = Stops e read

-- After the first word k of a construct, of whatever sort n, reading goes on inside it.
pub record IsInside (k d inner : ℕ) (rest xs : Lexemes) : Type 0 where
  pub deeper : inner + 1 ≡ d
  pub front : xs ≡ Fixed k ∷ rest
  pub goes_on : (n : ℕ) → reading d (Nest k n) xs ≡ reading inner (grammar n) rest

abbrev pub Enters : {X : Type 0} → (X → ℕ) → (X → Lexemes) → Result X Stop → ℕ → ℕ → Lexemes → Type 0
Enters inner rest (Ok x) d k xs = IsInside k d (inner x) (rest x) xs
Enters inner rest (Err e) d k xs = (n : ℕ) → Stops e (reading d (Nest k n) xs)

-- the first word of a construct is read, if the word has a label
pub record IsInsideAt (k d inner : ℕ) (label : Label) (rest xs : Lexemes) : Type 0 where
  pub deeper : inner + 1 ≡ d
  pub front : xs ≡ Named k label ∷ rest
  pub goes_on : (n : ℕ) → reading d (Begun k n) xs ≡ reading inner (grammar n) rest

abbrev pub EntersAt : {X : Type 0} → (X → ℕ) → (X → Label) → (X → Lexemes) → Result X Stop → ℕ → ℕ → Lexemes → Type 0
EntersAt inner label rest (Ok x) d k xs = IsInsideAt k d (inner x) (label x) (rest x) xs
EntersAt inner label rest (Err e) d k xs = (n : ℕ) → Stops e (reading d (Begun k n) xs)

-- the first token is of this symbol
pub record IsFirst (s : Symbol) (ts : List Token) (t : Token) (rest : List Token) : Type 0 where
  pub here : ts ≡ t ∷ rest
  pub sort : symbol_of t ≡ s

-- it isn't, or there is none
abbrev pub IsOther : Symbol → List Token → Type 0
IsOther s ts = (source : List ℕ) → begins (number s ∷ []) (lexemes source ts) ≡ false
