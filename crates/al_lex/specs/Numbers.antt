-- Numbers (ARM 2.4).
use Rattle.std.specs.Prelude.{ℕ, ◌==◌, ◌+◌, ◌-◌, ◌*◌, ◌^◌, Bool, not, ◌&&◌, ◌||◌, nat_lt, nat_le, List, [], ◌∷◌, take, drop, slice_index, Option, Some, None, Result, Ok, Err, if◌then◌else◌}
use Rattle.std.specs.List.{list_all}
use Rattle.std.specs.Char.{is_ascii_digit, is_ascii_hexdigit}
use Rattle.al_lex.specs.declared.numbers.Digits.{Digits}
use Rattle.al_lex.specs.declared.numbers.Digits.TheVariants.{Decimal, Hexadecimal}
use Rattle.al_lex.specs.declared.numbers.Parts.{Parts}
use Rattle.al_lex.specs.declared.token.Kind.TheVariants.{Number}
use Rattle.al_lex.specs.declared.token.Sort.TheVariants.{Lexeme}
use Rattle.al_lex.specs.declared.token.LexCode.{LexCode}
use Rattle.al_lex.specs.declared.token.LexCode.TheVariants.{BadNumber, NumberTooLarge}
use Rattle.al_lex.specs.declared.token.Piece.{Piece}
use Rattle.al_base.specs.Identifiers.{is_word_byte}

abbrev pub is_digit : Digits → ℕ → Bool
is_digit Decimal b = is_ascii_digit b
is_digit Hexadecimal b = is_ascii_hexdigit b

-- a byte b that goes on with a numeral, c after it: a digit, or an underscore between digits
abbrev pub goes_on : Digits → ℕ → ℕ → Bool
goes_on d b c = is_digit d b || (b == 95 && is_digit d c)

unfoldable pub run_len : Digits → List ℕ → ℕ
run_len d [] = 0
run_len d (b ∷ bs) = if goes_on d b (slice_index bs 0) then 1 + run_len d bs else 0

-- how long the longest numeral at the beginning is: digits, single underscores between them
abbrev pub numeral_len : Digits → List ℕ → ℕ
numeral_len d bs = if is_digit d (slice_index bs 0) then run_len d bs else 0

-- how long X is if `# X #` is at the beginning, with hexadecimal digits X; else 0
abbrev pub based_len : List ℕ → ℕ
based_len bs =
    let x = numeral_len Hexadecimal (drop 1 bs) in
    if slice_index bs 0 == 35 && slice_index (drop 1 bs) x == 35 then x else 0

-- how many bytes come before the digits of an exponent: `E` and perhaps `+`
abbrev pub exponent_start : List ℕ → ℕ
exponent_start bs = if slice_index bs 1 == 43 then 2 else 1

-- how long the digits of an exponent at the beginning are, 0 if there is none
abbrev pub exponent_len : List ℕ → ℕ
exponent_len bs = if slice_index bs 0 == 69 || slice_index bs 0 == 101 then numeral_len Decimal (drop (exponent_start bs) bs) else 0

-- with the two `#` around them
abbrev pub with_hashes : ℕ → ℕ
with_hashes n = if n == 0 then 0 else n + 2

abbrev pub with_start : ℕ → ℕ → ℕ
with_start s n = if n == 0 then 0 else s + n

-- the longest spelling `N`, `N E [+] N`, `N # X #` or `N # X # E [+] N` at the beginning
unfoldable pub parts_of : List ℕ → Parts
parts_of bs =
    let n = numeral_len Decimal bs in
    let x = based_len (drop n bs) in
    let after = drop (n + with_hashes x) bs in
    record { numeral = n; based = x; start = exponent_start after; exponent = exponent_len after }

abbrev pub number_len : Parts → ℕ
number_len p = p.numeral + with_hashes p.based + with_start p.start p.exponent

-- the value of a digit
abbrev pub digit_value : ℕ → ℕ
digit_value b =
    if is_ascii_digit b then b - 48
    else (if nat_le 65 b && nat_le b 70 then b - 55
    else (if nat_le 97 b && nat_le b 102 then b - 87
    else 0))

-- the value with one byte more, a digit or an underscore
abbrev pub with_byte : ℕ → ℕ → ℕ → ℕ
with_byte base n b = if b == 95 then n else n * base + digit_value b

-- the value of a numeral, if its digits so far have the value n
unfoldable pub numeral_value : ℕ → ℕ → List ℕ → ℕ
numeral_value base n [] = n
numeral_value base n (b ∷ bs) = numeral_value base (with_byte base n b) bs

abbrev pub numeral_of : Parts → List ℕ → List ℕ
numeral_of p bs = take p.numeral bs

abbrev pub based_of : Parts → List ℕ → List ℕ
based_of p bs = take p.based (drop (p.numeral + 1) bs)

abbrev pub exponent_of : Parts → List ℕ → List ℕ
exponent_of p bs = take p.exponent (drop (p.numeral + with_hashes p.based + p.start) bs)

abbrev pub base_value : Parts → List ℕ → ℕ
base_value p bs = if p.based == 0 then 10 else numeral_value 10 0 (numeral_of p bs)

abbrev pub digits_of : Parts → List ℕ → List ℕ
digits_of p bs = if p.based == 0 then numeral_of p bs else based_of p bs

unfoldable pub value_of : Parts → List ℕ → ℕ
value_of p bs =
    let base = base_value p bs in
    numeral_value base 0 (digits_of p bs) * base ^ numeral_value 10 0 (exponent_of p bs)

-- digits below the base, and underscores
abbrev pub is_below : ℕ → List ℕ → Bool
is_below base bs = list_all (λ b. b == 95 || nat_lt (digit_value b) base) bs

-- a letter, digit, underscore or `#` follows, or a point and a digit
abbrev pub runs_on : List ℕ → Bool
runs_on bs = is_word_byte (slice_index bs 0) || (slice_index bs 0 == 35 || (slice_index bs 0 == 46 && is_ascii_digit (slice_index bs 1)))

abbrev pub is_well_formed : Parts → List ℕ → Bool
is_well_formed p bs =
    (nat_le 2 (base_value p bs) && nat_le (base_value p bs) 16)
    && (is_below (base_value p bs) (digits_of p bs) && not (runs_on (drop (number_len p) bs)))

-- the value of the number at the beginning, or why it has none
unfoldable pub number_at : Parts → List ℕ → Result ℕ LexCode
number_at p bs =
    if is_well_formed p bs
    then (if nat_lt (value_of p bs) (2 ^ 63) then Ok (value_of p bs) else Err NumberTooLarge)
    else Err BadNumber

abbrev pub number_piece : ℕ → Result ℕ LexCode → Result Piece LexCode
number_piece len (Ok n) = Ok (record { sort = Lexeme Number; len = len })
number_piece len (Err c) = Err c

unfoldable pub number : List ℕ → Result Piece LexCode
number bs = number_piece (number_len (parts_of bs)) (number_at (parts_of bs) bs)

abbrev pub ok : Result ℕ LexCode → Option ℕ
ok (Ok n) = Some n
ok (Err c) = None

-- the value of a number's spelling
unfoldable pub number_value : List ℕ → Option ℕ
number_value bs = ok (number_at (parts_of bs) bs)
