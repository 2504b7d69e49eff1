-- The piece at the front is the longest, or faulty.
use Rattle.std.proofs.Common.{ℕ, zero, suc, ◌≡◌, ◌==◌, ◌<◌, ◌≤◌, inl, inr, true, false, ◌&&◌, List, [], ◌∷◌, length, map, take, drop, Option, Some, None, Result, Ok, Err, refl, sym, ap, ◌∙◌, ap₂, get_or, arith}
use Rattle.std.specs.Prelude.{if◌then◌else◌, nat_lt}
use Rattle.std.specs.Char.{is_ascii_alphabetic, is_ascii_digit, to_ascii_lowercase}
use Rattle.std.specs.List.{prefix_len}
use Rattle.std.proofs.lemmas.Bool.{ltb-false, eqb-false}
use Rattle.std.proofs.lemmas.List.{length-take-le}
use Rattle.std.proofs.lemmas.List.Folds.{length-prefix_len}
use borrow.Author.Tests.{ltb-true}
use Rattle.al_base.specs.declared.reserved.ReservedWord.{ReservedWord}
use Rattle.al_base.specs.Identifiers.{has_bad_underscore, is_word_byte}
use Rattle.al_base.specs.ReservedWords.{reserved_at}
use Rattle.al_lex.specs.declared.delimiter.Delimiter.{Delimiter as Delim}
use Rattle.al_lex.specs.declared.token.Kind.TheVariants.{Identifier, Reserved, Number, Str, Delimiter}
use Rattle.al_lex.specs.declared.token.LexCode.{LexCode}
use Rattle.al_lex.specs.declared.token.LexCode.TheVariants.{IllegalCharacter, BadIdentifier, BadNumber, NumberTooLarge, IdentifierTooLong}
use Rattle.al_lex.specs.declared.token.Piece.{Piece}
use Rattle.al_lex.specs.declared.token.Sort.{Sort}
use Rattle.al_lex.specs.declared.token.Sort.TheVariants.{Gap, LineEnd, Lexeme}
use Rattle.al_lex.specs.Bytes.{is_line_end, is_blank}
use Rattle.al_lex.specs.Delimiters.{written, double, single}
use Rattle.al_lex.specs.Laws.{PiecesAreLongest}
use Rattle.al_lex.specs.Numbers.{is_well_formed, number, number_at, number_len, number_piece, parts_of, value_of}
use Rattle.al_lex.specs.Pieces.{delimiter, front_piece, lone, paired}
use Rattle.al_lex.specs.Shapes.{Describes, IsDelimiter, IsFaulty, IsGood, IsGoodWord, IsLongest, IsNumber, IsOf, IsWord}
use Rattle.al_lex.specs.Strings.{body_len, string_piece}
use Rattle.al_lex.specs.Words.{kind_of, word, word_kind}
use Rattle.al_lex.proofs.Across.{NotInComment, across, blank_first, comment_first, line_end_first, number_first}
use Rattle.al_lex.proofs.Elements.{string_good}
use Rattle.al_lex.proofs.Longest.{blank_front, comment_front, line_end_front, pair_front, word_front}
use Rattle.al_lex.proofs.LongestNumbers.{number_front}
use Rattle.al_lex.proofs.Positive.{HasByte, choose, front_cases, front_has}
use Rattle.al_lex.proofs.Found.{Found}
use Rattle.al_lex.proofs.Prefixes.{head_of_front}
use Rattle.al_lex.proofs.Written.{single_written, double_written, written_single, written_double, short}

-- words
kind_good : (bs : List ℕ) (n : ℕ) → IsLongest IsWord bs n → IsGoodWord (take n bs) → (o : Option ReservedWord) → reserved_at (map to_ascii_lowercase (take n bs)) ≡ o → IsLongest (IsOf (Lexeme (kind_of o))) bs n × IsGood (Lexeme (kind_of o)) bs n
kind_good bs n f g None e = (f, (g, e))
kind_good bs n f g (Some w) e = (f, (g, e))

word_good : (bs : List ℕ) → is_ascii_alphabetic (get_or bs 0 0) ≡ true → Found (word bs) bs
unfolding word
word_good bs h =
    let n = prefix_len is_word_byte bs in
    let f : IsLongest IsWord bs n = word_front bs h in
    let P : Result Piece LexCode → Type 0 = λ r. Found r bs in
    let good : Result Piece LexCode = Ok (record { sort = Lexeme (word_kind (take n bs)); len = n }) in
    let long : Result Piece LexCode = if nat_lt 200 n then Err IdentifierTooLong else good in
    choose P (has_bad_underscore (take n bs)) (Err BadIdentifier) long (λ u. (n, f, u))
    (λ u. choose P (nat_lt 200 n) (Err IdentifierTooLong) good (λ l. (n, f, u, ltb-true 200 n l))
    (λ l. kind_good bs n f (record { underscores = u; short = omega (arith, length-prefix_len is_word_byte bs, ltb-false 200 n l) }) (reserved_at (map to_ascii_lowercase (take n bs))) refl))

-- numbers
number_good : (bs : List ℕ) → is_ascii_digit (get_or bs 0 0) ≡ true → IsLongest IsNumber bs (number_len (parts_of bs)) → Found (number bs) bs
unfolding number number_at
number_good bs h f =
    let p = parts_of bs in
    let n = number_len p in
    let P : Result ℕ LexCode → Type 0 = λ r. Found (number_piece n r) bs in
    let sized : Result ℕ LexCode = if nat_lt (value_of p bs) 9223372036854775808 then Ok (value_of p bs) else Err NumberTooLarge in
    choose P (is_well_formed p bs) sized (Err BadNumber)
    (λ w. choose P (nat_lt (value_of p bs) 9223372036854775808) (Ok (value_of p bs)) (Err NumberTooLarge) (λ l. (f, (w, ltb-true (value_of p bs) 9223372036854775808 l))) (λ l. (n, f, w, ltb-false (value_of p bs) 9223372036854775808 l)))
    (λ w. (n, f, w))

-- a byte with which no piece begins
pub record BeginsNone (b c : ℕ) : Type 0 where
  pub blank : is_blank b ≡ false
  pub line_end : is_line_end b ≡ false
  pub comment : (b == 45 && c == 45) ≡ false
  pub letter : is_ascii_alphabetic b ≡ false
  pub quote : (b == 34) ≡ false
  pub digit : is_ascii_digit b ≡ false

no_comment : (b c : ℕ) → (b == 45 && c == 45) ≡ false → b ≡ 45 → c ≡ 45 → ⊥
no_comment b c h x y = let e = ap₂ (λ (u v : ℕ). u == 45 && v == 45) (sym x) (sym y) ∙ h in absurd (cc)

-- where no delimiter begins
pub record WritesNone (b : ℕ) (rest : List ℕ) : Type 0 where
  pub single : single b ≡ None
  pub double : (c : ℕ) (cs : List ℕ) → rest ≡ c ∷ cs → double b c ≡ None

no_delimiter : (b : ℕ) (rest : List ℕ) → WritesNone b rest → (d : Delim) (n : ℕ) → suc n ≤ length (b ∷ rest) → written d ≡ b ∷ take n rest → ⊥
no_delimiter b rest w d zero k e = let s = written_single b d e in let t = w.single in absurd (cc)
no_delimiter b [] w d (suc n) k e = absurd (omega arith)
no_delimiter b (c ∷ cs) w d (suc zero) k e = let s = written_double b c d e in let t = w.double c cs refl in absurd (cc)
no_delimiter b (c ∷ []) w d (suc (suc n)) k e = absurd (omega arith)
no_delimiter b (c ∷ x ∷ cs) w d (suc (suc n)) k e = absurd (omega (arith, short d, ap length e))

nothing_begins : (b : ℕ) (rest : List ℕ) → BeginsNone b (get_or rest 0 0) → WritesNone b rest → (s : Sort) (n : ℕ) → suc n ≤ length (b ∷ rest) → IsOf s (b ∷ take n rest) → ⊥
nothing_begins b rest f w Gap n k (inl p) = let e = blank_first b (take n rest) p in let g = f.blank in absurd (cc)
nothing_begins b rest f w Gap n k (inr p) = let e = comment_first b (take n rest) p in no_comment b (get_or rest 0 0) f.comment e.0 (head_of_front 45 (omega arith) n rest e.1)
nothing_begins b rest f w LineEnd n k p = let e = line_end_first b (take n rest) p in let g = f.line_end in absurd (cc)
nothing_begins b rest f w (Lexeme Identifier) n k p = let e = p.0 in let g = f.letter in absurd (cc)
nothing_begins b rest f w (Lexeme (Reserved r)) n k p = let e = p.0 in let g = f.letter in absurd (cc)
nothing_begins b rest f w (Lexeme Number) n k p = let e = number_first (b ∷ take n rest) p in let g = f.digit in absurd (cc)
nothing_begins b rest f w (Lexeme Str) n k p = let e : b ≡ 34 = (let s = p.2 in cc) in eqb-false b 34 f.quote e
nothing_begins b rest f w (Lexeme (Delimiter d)) n k p = no_delimiter b rest w p.0 n k p.1

any_front : (b : ℕ) (rest : List ℕ) → BeginsNone b (get_or rest 0 0) → WritesNone b rest → (s : Sort) (n : ℕ) → 0 < n → n ≤ length (b ∷ rest) → IsOf s (take n (b ∷ rest)) → ⊥
any_front b rest f w s zero l k p = absurd (omega arith)
any_front b rest f w s (suc n) l k p = nothing_begins b rest f w s n k p

illegal : (b : ℕ) (rest : List ℕ) → BeginsNone b (get_or rest 0 0) → WritesNone b rest → IsFaulty IllegalCharacter (b ∷ rest)
illegal b rest f w = (eqb-false b 34 f.quote, any_front b rest f w)

-- delimiters
longer_double : (b c : ℕ) (bs : List ℕ) (m : ℕ) → 2 < m → m ≤ length (b ∷ c ∷ bs) → IsDelimiter (take m (b ∷ c ∷ bs)) → ⊥
longer_double b c bs m l k w = absurd (omega (arith, short w.0, ap length w.1, length-take-le m (b ∷ c ∷ bs) k))

longer_lone : (b : ℕ) (rest : List ℕ) → ((c : ℕ) (cs : List ℕ) → rest ≡ c ∷ cs → double b c ≡ None) → (m : ℕ) → 1 < m → m ≤ length (b ∷ rest) → IsDelimiter (take m (b ∷ rest)) → ⊥
longer_lone b rest n zero l k w = absurd (omega arith)
longer_lone b rest n (suc zero) l k w = absurd (omega arith)
longer_lone b [] n (suc (suc m)) l k w = absurd (omega arith)
longer_lone b (c ∷ cs) n (suc (suc zero)) l k w = let s = written_double b c w.0 w.1 in let t = n c cs refl in absurd (cc)
longer_lone b (c ∷ []) n (suc (suc (suc m))) l k w = absurd (omega arith)
longer_lone b (c ∷ x ∷ cs) n (suc (suc (suc m))) l k w = absurd (omega (arith, short w.0, ap length w.1))

lone_good : (b : ℕ) (rest : List ℕ) → BeginsNone b (get_or rest 0 0) → ((c : ℕ) (cs : List ℕ) → rest ≡ c ∷ cs → double b c ≡ None) → (o : Option Delim) → single b ≡ o → Found (lone o) (b ∷ rest)
lone_good b rest f n None e = illegal b rest f (record { single = e; double = n })
lone_good b rest f n (Some d) e = (record { within = omega arith; piece = (d, single_written b d e); no_more = longer_lone b rest n }, single_written b d e)

paired_good : (b c : ℕ) (bs : List ℕ) → BeginsNone b c → (o : Option Delim) → double b c ≡ o → Found (paired o (single b)) (b ∷ c ∷ bs)
paired_good b c bs f None e = lone_good b (c ∷ bs) f (λ x xs s. ap (λ (z : ℕ). double b z) (let t : x ≡ c = cc in t) ∙ e) (single b) refl
paired_good b c bs f (Some d) e = (record { within = omega arith; piece = (d, double_written b c d e); no_more = longer_double b c bs }, double_written b c d e)

delimiter_good : (bs : List ℕ) → 0 < length bs → BeginsNone (get_or bs 0 0) (get_or bs 1 0) → Found (delimiter bs) bs
delimiter_good [] l f = absurd (omega arith)
delimiter_good (b ∷ []) l f = lone_good b [] f (λ x xs s. absurd (cc)) (single b) refl
delimiter_good (b ∷ c ∷ bs) l f = paired_good b c bs f (double b c) refl

-- the piece is the longest of its sort, or faulty
found : (bs : List ℕ) → 0 < length bs → Found (front_piece bs) bs
found bs l =
    front_cases (λ r. Found r bs) bs
    (λ h. (blank_front bs h, tt))
    (λ h. (pair_front bs h, tt))
    (λ n h. (line_end_front bs n h, tt))
    (λ h. (comment_front bs h, tt))
    (λ h. word_good bs h)
    (λ h. string_good bs h)
    (λ h. number_good bs h (number_front bs h))
    (λ n1 n2 n3 n4 n5 n6. delimiter_good bs l (record { blank = n1; line_end = n2; comment = n3; letter = n4; quote = n5; digit = n6 }))

-- it is no delimiter where a comment begins
lone_no_comment : (bs : List ℕ) → (get_or bs 0 0 == 45 && get_or bs 1 0 == 45) ≡ false → (o : Option Delim) → NotInComment (lone o) bs
lone_no_comment bs h None = tt
lone_no_comment bs h (Some d) = h

paired_no_comment : (bs : List ℕ) → (get_or bs 0 0 == 45 && get_or bs 1 0 == 45) ≡ false → (o e : Option Delim) → NotInComment (paired o e) bs
paired_no_comment bs h None e = lone_no_comment bs h e
paired_no_comment bs h (Some d) e = h

delimiter_no_comment : (bs : List ℕ) → (get_or bs 0 0 == 45 && get_or bs 1 0 == 45) ≡ false → NotInComment (delimiter bs) bs
delimiter_no_comment [] h = tt
delimiter_no_comment (b ∷ []) h = lone_no_comment (b ∷ []) h (single b)
delimiter_no_comment (b ∷ c ∷ bs) h = paired_no_comment (b ∷ c ∷ bs) h (double b c) (single b)

kind_no_comment : (bs : List ℕ) (n : ℕ) (o : Option ReservedWord) → NotInComment (Ok (record { sort = Lexeme (kind_of o); len = n })) bs
kind_no_comment bs n None = tt
kind_no_comment bs n (Some w) = tt

word_no_comment : (bs : List ℕ) → NotInComment (word bs) bs
unfolding word
word_no_comment bs =
    let n = prefix_len is_word_byte bs in
    let P : Result Piece LexCode → Type 0 = λ r. NotInComment r bs in
    let good : Result Piece LexCode = Ok (record { sort = Lexeme (word_kind (take n bs)); len = n }) in
    let long : Result Piece LexCode = if nat_lt 200 n then Err IdentifierTooLong else good in
    choose P (has_bad_underscore (take n bs)) (Err BadIdentifier) long (λ u. tt)
    (λ u. choose P (nat_lt 200 n) (Err IdentifierTooLong) good (λ l. tt) (λ l. kind_no_comment bs n (reserved_at (map to_ascii_lowercase (take n bs)))))

string_no_comment : (bs : List ℕ) (o : Option ℕ) → NotInComment (string_piece o) bs
string_no_comment bs None = tt
string_no_comment bs (Some n) = tt

piece_no_comment : (bs : List ℕ) (n : ℕ) (r : Result ℕ LexCode) → NotInComment (number_piece n r) bs
piece_no_comment bs n (Ok v) = tt
piece_no_comment bs n (Err c) = tt

number_no_comment : (bs : List ℕ) → NotInComment (number bs) bs
unfolding number
number_no_comment bs = piece_no_comment bs (number_len (parts_of bs)) (number_at (parts_of bs) bs)

no_comment_at : (bs : List ℕ) → NotInComment (front_piece bs) bs
no_comment_at bs =
    front_cases (λ r. NotInComment r bs) bs (λ h. tt) (λ h. tt) (λ n h. tt) (λ h. tt)
    (λ h. word_no_comment bs)
    (λ h. string_no_comment bs (body_len (drop 1 bs)))
    (λ h. number_no_comment bs)
    (λ n1 n2 n3 n4 n5 n6. delimiter_no_comment bs n3)

described : (bs : List ℕ) (r : Result Piece LexCode) → HasByte r → NotInComment r bs → Found r bs → Describes r bs
described bs (Ok q) l n f = (record { within = f.0.within; piece = f.0.piece; no_more = λ t m k r w. across q.sort t bs q.len m n f.0 l k r w }, f.1)
described bs (Err c) l n f = f

pub pieces_are_longest : PiecesAreLongest
pieces_are_longest bs l = described bs (front_piece bs) (front_has bs) (no_comment_at bs) (found bs l)
