-- What pieces are, each as a whole list of bytes.
use Rattle.std.specs.Prelude.{ℕ, ◌≡◌, ◌<◌, ◌≤◌, ◌^◌, ◌⊎◌, true, false, ◌||◌, ◌==◌, List, [], ◌∷◌, ◌++◌, length, map, take, drop, slice_index, Some, None, Result, Ok, Err}
use Rattle.std.specs.Char.{is_ascii_alphabetic, to_ascii_lowercase}
use Rattle.std.specs.List.{list_all}
use Rattle.al_base.specs.Identifiers.{has_bad_underscore, is_word_byte}
use Rattle.al_base.specs.ReservedWords.{reserved_at}
use Rattle.al_lex.specs.declared.delimiter.Delimiter.{Delimiter as Delim}
use Rattle.al_lex.specs.declared.numbers.Digits.{Digits}
use Rattle.al_lex.specs.declared.numbers.Digits.TheVariants.{Decimal, Hexadecimal}
use Rattle.al_lex.specs.declared.token.Kind.TheVariants.{Identifier, Reserved, Number, Str, Delimiter}
use Rattle.al_lex.specs.declared.token.Sort.{Sort}
use Rattle.al_lex.specs.declared.token.Sort.TheVariants.{Gap, LineEnd, Lexeme}
use Rattle.al_lex.specs.declared.token.LexCode.{LexCode}
use Rattle.al_lex.specs.declared.token.LexCode.TheVariants.{IllegalCharacter, BadIdentifier, BadNumber, NumberTooLarge, BadString, IdentifierTooLong}
use Rattle.al_lex.specs.declared.token.Piece.{Piece}
use Rattle.al_lex.specs.Bytes.{is_line_end, is_inside_line, is_blank, is_printable}
use Rattle.al_lex.specs.Delimiters.{written}
use Rattle.al_lex.specs.Numbers.{is_digit, is_well_formed, parts_of, value_of}

-- a space or a tab
abbrev pub IsBlank : List ℕ → Type 0
IsBlank [] = ⊥
IsBlank (b ∷ []) = is_blank b ≡ true
IsBlank (b ∷ c ∷ bs) = ⊥

-- two hyphens, and more bytes of the line (ARM 2.7)
abbrev pub IsComment : List ℕ → Type 0
IsComment [] = ⊥
IsComment (b ∷ []) = ⊥
IsComment (b ∷ c ∷ bs) = (b ≡ 45) × (c ≡ 45) × (list_all is_inside_line bs ≡ true)

-- LF, VT, FF, CR, or CR LF (ARM 2.2)
abbrev pub IsLineEnd : List ℕ → Type 0
IsLineEnd [] = ⊥
IsLineEnd (b ∷ []) = is_line_end b ≡ true
IsLineEnd (b ∷ c ∷ []) = (b ≡ 13) × (c ≡ 10)
IsLineEnd (b ∷ c ∷ d ∷ bs) = ⊥

-- a letter, and letters, digits and underscores (ARM 2.3)
abbrev pub IsWord : List ℕ → Type 0
IsWord [] = ⊥
IsWord (b ∷ bs) = (is_ascii_alphabetic b ≡ true) × (list_all is_word_byte bs ≡ true)

-- what a string has between its quotes: bytes that are no quotes, and pairs of quotes (ARM 2.6)
abbrev pub AreElements : List ℕ → Type 0
AreElements [] = Unit {0}
AreElements (b ∷ []) = (is_printable b ≡ true) × (b ≡ 34 → ⊥)
AreElements (b ∷ c ∷ bs) = (((is_printable b ≡ true) × (b ≡ 34 → ⊥)) × AreElements (c ∷ bs)) ⊎ (((b ≡ 34) × (c ≡ 34)) × AreElements bs)

abbrev pub IsString : List ℕ → Type 0
IsString bs = (elements : List ℕ) × AreElements elements × (bs ≡ 34 ∷ (elements ++ 34 ∷ []))

abbrev pub IsDelimiter : List ℕ → Type 0
IsDelimiter bs = (d : Delim) × (written d ≡ bs)

-- digits, and single underscores between them (ARM 2.4.1, 2.4.2)
abbrev pub IsNumeral : Digits → List ℕ → Type 0
IsNumeral d [] = ⊥
IsNumeral d (b ∷ []) = is_digit d b ≡ true
IsNumeral d (b ∷ c ∷ bs) = (is_digit d b ≡ true) × (IsNumeral d (c ∷ bs) ⊎ ((c ≡ 95) × IsNumeral d bs))

-- nothing, or `E`, perhaps `+`, and a numeral
abbrev pub IsExponent : List ℕ → Type 0
IsExponent [] = Unit {0}
IsExponent (b ∷ []) = ⊥
IsExponent (b ∷ c ∷ bs) = ((b == 69 || b == 101) ≡ true) × (IsNumeral Decimal (c ∷ bs) ⊎ ((c ≡ 43) × IsNumeral Decimal bs))

abbrev pub IsNumber : List ℕ → Type 0
IsNumber bs =
    (n : List ℕ) × (e : List ℕ) × IsNumeral Decimal n × IsExponent e
    × ((bs ≡ n ++ e) ⊎ ((x : List ℕ) × IsNumeral Hexadecimal x × (bs ≡ n ++ 35 ∷ (x ++ 35 ∷ e))))

-- the first n of the bytes are such a piece, and no more of them are
pub record IsLongest (P : List ℕ → Type 0) (bs : List ℕ) (n : ℕ) : Type 0 where
  pub within : n ≤ length bs
  pub piece : P (take n bs)
  pub no_more : (m : ℕ) → n < m → m ≤ length bs → P (take m bs) → ⊥

-- pieces of a sort, well formed or not
abbrev pub IsOf : Sort → List ℕ → Type 0
IsOf Gap bs = IsBlank bs ⊎ IsComment bs
IsOf LineEnd bs = IsLineEnd bs
IsOf (Lexeme Identifier) bs = IsWord bs
IsOf (Lexeme (Reserved w)) bs = IsWord bs
IsOf (Lexeme Number) bs = IsNumber bs
IsOf (Lexeme Str) bs = IsString bs
IsOf (Lexeme (Delimiter d)) bs = IsDelimiter bs

-- a word without a fault
pub record IsGoodWord (bs : List ℕ) : Type 0 where
  pub underscores : has_bad_underscore bs ≡ false
  pub short : length bs ≤ 200

-- the first n of the bytes are without a fault
abbrev pub IsGood : Sort → List ℕ → ℕ → Type 0
IsGood Gap bs n = Unit {0}
IsGood LineEnd bs n = Unit {0}
IsGood (Lexeme Identifier) bs n = IsGoodWord (take n bs) × (reserved_at (map to_ascii_lowercase (take n bs)) ≡ None)
IsGood (Lexeme (Reserved w)) bs n = IsGoodWord (take n bs) × (reserved_at (map to_ascii_lowercase (take n bs)) ≡ Some w)
IsGood (Lexeme Number) bs n = (is_well_formed (parts_of bs) bs ≡ true) × (value_of (parts_of bs) bs < 2 ^ 63)
IsGood (Lexeme Str) bs n = Unit {0}
IsGood (Lexeme (Delimiter d)) bs n = written d ≡ take n bs

-- what is wrong with the piece at the beginning
abbrev pub IsFaulty : LexCode → List ℕ → Type 0
IsFaulty IllegalCharacter bs = ((slice_index bs 0 ≡ 34) → ⊥) × ((s : Sort) (n : ℕ) → 0 < n → n ≤ length bs → IsOf s (take n bs) → ⊥)
IsFaulty BadIdentifier bs = (n : ℕ) × IsLongest IsWord bs n × (has_bad_underscore (take n bs) ≡ true)
IsFaulty IdentifierTooLong bs = (n : ℕ) × IsLongest IsWord bs n × (has_bad_underscore (take n bs) ≡ false) × (200 < n)
IsFaulty BadNumber bs = (n : ℕ) × IsLongest IsNumber bs n × (is_well_formed (parts_of bs) bs ≡ false)
IsFaulty NumberTooLarge bs = (n : ℕ) × IsLongest IsNumber bs n × (is_well_formed (parts_of bs) bs ≡ true) × (2 ^ 63 ≤ value_of (parts_of bs) bs)
IsFaulty BadString bs = (n : ℕ) × (slice_index bs 0 ≡ 34) × IsLongest AreElements (drop 1 bs) n × (slice_index (drop 1 bs) n ≡ 34 → ⊥)

-- the first n of the bytes are a piece of this sort, and no more of them are one of any sort
pub record IsLongestPiece (s : Sort) (bs : List ℕ) (n : ℕ) : Type 0 where
  pub within : n ≤ length bs
  pub piece : IsOf s (take n bs)
  pub no_more : (t : Sort) (m : ℕ) → n < m → m ≤ length bs → IsOf t (take m bs) → ⊥

-- the piece is the longest that begins there, and without a fault; or it has this fault
abbrev pub Describes : Result Piece LexCode → List ℕ → Type 0
Describes (Ok q) bs = IsLongestPiece q.sort bs q.len × IsGood q.sort bs q.len
Describes (Err c) bs = IsFaulty c bs
