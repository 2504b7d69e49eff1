-- The options that the words of the command line give.
use Rattle.std.specs.Prelude.{◌≡◌, ℕ, ◌==◌, Bool, true, not, List, [], ◌∷◌, ◌++◌, codes, Option, Some, None}
use Rattle.adalib.specs.Tick.{tick_of}

abbrev pub Word : Type 0
Word = List ℕ

abbrev pub two_hyphens : Word
two_hyphens = codes "--"

abbrev pub tick_word : Word
tick_word = codes "--tick"

-- the word is no option: it doesn't begin with a hyphen (45), or is only one hyphen
abbrev pub is_plain : Word → Bool
is_plain [] = true
is_plain (first ∷ []) = true
is_plain (first ∷ second ∷ rest) = not (first == 45)

-- the words are `[--tick N] [FILE]`, in either order: the word at N, and the file's name
pub data Written : List Word → Option Word → Option Word → Type 0 where
  nothing : Written [] None None
  -- `--tick N`
  spaced : (number : Word) (rest : List Word) (file : Option Word) → is_plain number ≡ true
      → Written rest None file → Written (tick_word ∷ number ∷ rest) (Some number) file
  -- `--tick=N`
  joined : (number : Word) (rest : List Word) (file : Option Word)
      → Written rest None file → Written ((tick_word ++ 61 ∷ number) ∷ rest) (Some number) file
  -- the file
  named : (name : Word) (rest : List Word) (number : Option Word) → is_plain name ≡ true
      → Written rest number None → Written (name ∷ rest) number (Some name)
  -- `--` at the end, and `--` before any name
  ended : Written (two_hyphens ∷ []) None None
  named_last : (name : Word) → Written (two_hyphens ∷ name ∷ []) None (Some name)

-- the tick that the word N gives, and 100 if there is none
abbrev pub tick_told : Option Word → Option ℕ
tick_told None = Some 100
tick_told (Some number) = tick_of number

-- the words give this tick and this file
abbrev pub AsksFor : List Word → ℕ → Option Word → Type 0
AsksFor words tick file = (number : Option Word) × Written words number file × (tick_told number ≡ Some tick)
