-- The cases of the piece at the front, and that it has a byte at least.
use Rattle.std.proofs.Common.{ℕ, ◌≡◌, ◌==◌, ◌&&◌, ◌<◌, Bool, true, false, List, [], ◌∷◌, Option, Some, None, Result, Ok, Err, take, drop, refl, get_or, arith}
use Rattle.std.specs.Prelude.{if◌then◌else◌, nat_lt}
use Rattle.std.specs.Char.{is_ascii_alphabetic, is_ascii_digit}
use Rattle.std.specs.List.{prefix_len}
use Rattle.al_lex.specs.declared.delimiter.Delimiter.{Delimiter}
use Rattle.al_lex.specs.declared.token.Sort.TheVariants.{Gap, LineEnd, Lexeme}
use Rattle.al_lex.specs.declared.token.LexCode.{LexCode}
use Rattle.al_lex.specs.declared.token.LexCode.TheVariants.{BadIdentifier, IdentifierTooLong}
use Rattle.al_lex.specs.declared.token.Piece.{Piece}
use Rattle.al_lex.specs.Bytes.{is_line_end, is_inside_line, is_blank}
use Rattle.al_lex.specs.Delimiters.{double, single}
use Rattle.al_base.specs.Identifiers.{has_bad_underscore, is_word_byte}
use Rattle.al_lex.specs.Words.{word, word_kind}
use Rattle.al_lex.specs.Numbers.{number_piece, number_len, number_at, parts_of}
use Rattle.al_lex.specs.Strings.{body_len, string_piece}
use Rattle.al_lex.specs.Numbers.{number}
use Rattle.al_lex.specs.Pieces.{delimiter, front_piece, lone, paired, piece}
use Rattle.al_lex.proofs.Numerals.{some_number}
use Rattle.al_lex.proofs.Runs.{some_word, some_comment}

-- in each branch, where its test holds
pub choose : {X : Type 0} (P : X → Type 0) (b : Bool) (x y : X) → (b ≡ true → P x) → (b ≡ false → P y) → P (if b then x else y)
choose P true x y f g = f refl
choose P false x y f g = g refl

-- what holds of the piece in each case holds of it
pub front_cases : (P : Result Piece LexCode → Type 0) (bs : List ℕ)
    → (is_blank (get_or bs 0 0) ≡ true → P (piece Gap 1))
    → ((get_or bs 0 0 == 13 && get_or bs 1 0 == 10) ≡ true → P (piece LineEnd 2))
    → ((get_or bs 0 0 == 13 && get_or bs 1 0 == 10) ≡ false → is_line_end (get_or bs 0 0) ≡ true → P (piece LineEnd 1))
    → ((get_or bs 0 0 == 45 && get_or bs 1 0 == 45) ≡ true → P (piece Gap (prefix_len is_inside_line bs)))
    → (is_ascii_alphabetic (get_or bs 0 0) ≡ true → P (word bs))
    → ((get_or bs 0 0 == 34) ≡ true → P (string_piece (body_len (drop 1 bs))))
    → (is_ascii_digit (get_or bs 0 0) ≡ true → P (number bs))
    → (is_blank (get_or bs 0 0) ≡ false → is_line_end (get_or bs 0 0) ≡ false → (get_or bs 0 0 == 45 && get_or bs 1 0 == 45) ≡ false → is_ascii_alphabetic (get_or bs 0 0) ≡ false → (get_or bs 0 0 == 34) ≡ false → is_ascii_digit (get_or bs 0 0) ≡ false → P (delimiter bs))
    → P (front_piece bs)
unfolding front_piece
front_cases P bs blank pair line comment letter quote digit other =
    let b = get_or bs 0 0 in
    let c = get_or bs 1 0 in
    let r8 : Result Piece LexCode = delimiter bs in
    let r7 : Result Piece LexCode = if is_ascii_digit b then number bs else r8 in
    let r6 : Result Piece LexCode = if b == 34 then string_piece (body_len (drop 1 bs)) else r7 in
    let r5 : Result Piece LexCode = if is_ascii_alphabetic b then word bs else r6 in
    let r4 : Result Piece LexCode = if b == 45 && c == 45 then piece Gap (prefix_len is_inside_line bs) else r5 in
    let r3 : Result Piece LexCode = if is_line_end b then piece LineEnd 1 else r4 in
    let r2 : Result Piece LexCode = if b == 13 && c == 10 then piece LineEnd 2 else r3 in
    choose P (is_blank b) (piece Gap 1) r2 blank
    (λ n1. choose P (b == 13 && c == 10) (piece LineEnd 2) r3 pair
    (λ n2. choose P (is_line_end b) (piece LineEnd 1) r4 (line n2)
    (λ n3. choose P (b == 45 && c == 45) (piece Gap (prefix_len is_inside_line bs)) r5 comment
    (λ n4. choose P (is_ascii_alphabetic b) (word bs) r6 letter
    (λ n5. choose P (b == 34) (string_piece (body_len (drop 1 bs))) r7 quote
    (λ n6. choose P (is_ascii_digit b) (number bs) r8 digit
    (λ n7. other n1 n3 n4 n5 n6 n7)))))))

abbrev pub HasByte : Result Piece LexCode → Type 0
HasByte (Ok q) = 0 < q.len
HasByte (Err c) = Unit {0}

string_has : (o : Option ℕ) → HasByte (string_piece o)
string_has None = tt
string_has (Some n) = omega arith

lone_has : (o : Option Delimiter) → HasByte (lone o)
lone_has None = tt
lone_has (Some d) = omega arith

paired_has : (o e : Option Delimiter) → HasByte (paired o e)
paired_has None e = lone_has e
paired_has (Some d) e = omega arith

delimiter_has : (bs : List ℕ) → HasByte (delimiter bs)
delimiter_has [] = tt
delimiter_has (b ∷ []) = lone_has (single b)
delimiter_has (b ∷ c ∷ bs) = paired_has (double b c) (single b)

word_has : (bs : List ℕ) → is_ascii_alphabetic (get_or bs 0 0) ≡ true → HasByte (word bs)
unfolding word
word_has bs h =
    let n = prefix_len is_word_byte bs in
    let long : Result Piece LexCode = if nat_lt 200 n then Err IdentifierTooLong else Ok (record { sort = Lexeme (word_kind (take n bs)); len = n }) in
    choose HasByte (has_bad_underscore (take n bs)) (Err BadIdentifier) long (λ _. tt)
    (λ _. choose HasByte (nat_lt 200 n) (Err IdentifierTooLong) (Ok (record { sort = Lexeme (word_kind (take n bs)); len = n })) (λ _. tt) (λ _. some_word bs h))

piece_has : (n : ℕ) → 0 < n → (r : Result ℕ LexCode) → HasByte (number_piece n r)
piece_has n l (Ok v) = l
piece_has n l (Err c) = tt

number_has : (bs : List ℕ) → is_ascii_digit (get_or bs 0 0) ≡ true → HasByte (number bs)
unfolding number
number_has bs h = piece_has (number_len (parts_of bs)) (some_number bs h) (number_at (parts_of bs) bs)

pub front_has : (bs : List ℕ) → HasByte (front_piece bs)
front_has bs = front_cases HasByte bs (λ _. omega arith) (λ _. omega arith) (λ _ _. omega arith) (λ h. some_comment bs h) (word_has bs) (λ _. string_has (body_len (drop 1 bs))) (number_has bs) (λ _ _ _ _ _ _. delimiter_has bs)
