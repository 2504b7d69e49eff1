-- The longest piece at the beginning of a source.
use Rattle.std.specs.Prelude.{ℕ, ◌==◌, ◌&&◌, List, [], ◌∷◌, drop, Option, Some, None, Result, Ok, Err, if◌then◌else◌, slice_index}
use Rattle.std.specs.List.{prefix_len}
use Rattle.std.specs.Char.{is_ascii_alphabetic, is_ascii_digit}
use Rattle.al_lex.specs.declared.token.Kind.TheVariants.{Delimiter}
use Rattle.al_lex.specs.declared.delimiter.Delimiter.{Delimiter as Delim}
use Rattle.al_lex.specs.declared.token.Sort.{Sort}
use Rattle.al_lex.specs.declared.token.Sort.TheVariants.{Gap, LineEnd, Lexeme}
use Rattle.al_lex.specs.declared.token.LexCode.{LexCode}
use Rattle.al_lex.specs.declared.token.LexCode.TheVariants.{IllegalCharacter}
use Rattle.al_lex.specs.declared.token.Piece.{Piece}
use Rattle.al_lex.specs.Bytes.{is_line_end, is_inside_line, is_blank}
use Rattle.al_lex.specs.Delimiters.{double, single}
use Rattle.al_lex.specs.Words.{word}
use Rattle.al_lex.specs.Numbers.{number}
use Rattle.al_lex.specs.Strings.{body_len, string_piece}

abbrev pub piece : Sort → ℕ → Result Piece LexCode
piece sort n = Ok (record { sort = sort; len = n })

-- a delimiter of one byte
abbrev pub lone : Option Delim → Result Piece LexCode
lone (Some d) = piece (Lexeme (Delimiter d)) 1
lone None = Err IllegalCharacter

-- a delimiter of two bytes, or else of one
abbrev pub paired : Option Delim → Option Delim → Result Piece LexCode
paired (Some d) e = piece (Lexeme (Delimiter d)) 2
paired None e = lone e

abbrev pub delimiter : List ℕ → Result Piece LexCode
delimiter [] = Err IllegalCharacter
delimiter (b ∷ []) = lone (single b)
delimiter (b ∷ c ∷ bs) = paired (double b c) (single b)

-- the piece at the beginning of a source that isn't empty
unfoldable pub front_piece : List ℕ → Result Piece LexCode
front_piece bs =
    let b = slice_index bs 0 in
    let c = slice_index bs 1 in
    if is_blank b then piece Gap 1
    else (if b == 13 && c == 10 then piece LineEnd 2
    else (if is_line_end b then piece LineEnd 1
    else (if b == 45 && c == 45 then piece Gap (prefix_len is_inside_line bs)
    else (if is_ascii_alphabetic b then word bs
    else (if b == 34 then string_piece (body_len (drop 1 bs))
    else (if is_ascii_digit b then number bs
    else delimiter bs))))))
