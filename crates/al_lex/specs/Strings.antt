-- Strings (ARM 2.6).
use Rattle.std.specs.Prelude.{ℕ, ◌==◌, ◌+◌, List, [], ◌∷◌, Option, Some, None, Result, Ok, Err, if◌then◌else◌, option_map}
use Rattle.al_lex.specs.declared.token.Kind.TheVariants.{Str}
use Rattle.al_lex.specs.declared.token.Sort.TheVariants.{Lexeme}
use Rattle.al_lex.specs.declared.token.LexCode.{LexCode}
use Rattle.al_lex.specs.declared.token.LexCode.TheVariants.{BadString}
use Rattle.al_lex.specs.declared.token.Piece.{Piece}
use Rattle.al_lex.specs.Bytes.{is_printable}

-- how long a string is after its opening quote; a quote inside is written twice
unfoldable pub body_len : List ℕ → Option ℕ
body_len [] = None
body_len (b ∷ []) = if b == 34 then Some 1 else None
body_len (b ∷ c ∷ bs) =
    if b == 34
    then (if c == 34 then option_map (λ n. 2 + n) (body_len bs) else Some 1)
    else (if is_printable b then option_map (λ n. 1 + n) (body_len (c ∷ bs)) else None)

abbrev pub string_piece : Option ℕ → Result Piece LexCode
string_piece None = Err BadString
string_piece (Some n) = Ok (record { sort = Lexeme Str; len = 1 + n })
