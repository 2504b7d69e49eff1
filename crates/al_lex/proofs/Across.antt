-- A front of one sort and a longer one of another.
use Rattle.std.proofs.Common.{ℕ, zero, suc, ◌≡◌, ◌==◌, ◌<◌, ◌≤◌, ◌⊎◌, inl, inr, Bool, true, false, ◌&&◌, ◌||◌, List, [], ◌∷◌, ◌++◌, length, take, Result, Ok, Err, refl, sym, ap, ap₂, ◌∙◌, get_or, arith, ne_eqb, eqb-true}
use Rattle.std.specs.Prelude.{if◌then◌else◌, nat_le}
use Rattle.std.specs.Char.{is_ascii_alphabetic, is_ascii_digit}
use Rattle.std.specs.Int.{is_in_range}
use Rattle.std.proofs.lemmas.Bool.{cases_eq, leb-true}
use Rattle.std.proofs.lemmas.List.{length-take-le}
use Rattle.al_lex.specs.declared.delimiter.Delimiter.{Delimiter as Delim}
use Rattle.al_lex.specs.declared.delimiter.Delimiter.TheVariants.{Ampersand, Apostrophe, LeftParenthesis, RightParenthesis, Asterisk, Plus, Comma, Minus, Dot, Slash, Colon, Semicolon, Less, Equal, Greater, VerticalLine, Arrow, DoubleDot, DoubleAsterisk, Assign, NotEqual, GreaterOrEqual, LessOrEqual, LeftLabelBracket, RightLabelBracket, Box}
use Rattle.al_lex.specs.declared.numbers.Digits.TheVariants.{Decimal}
use Rattle.al_lex.specs.declared.token.Kind.{Kind}
use Rattle.al_lex.specs.declared.token.Kind.TheVariants.{Identifier, Reserved, Number, Str, Delimiter}
use Rattle.al_lex.specs.declared.token.LexCode.{LexCode}
use Rattle.al_lex.specs.declared.token.Piece.{Piece}
use Rattle.al_lex.specs.declared.token.Sort.{Sort}
use Rattle.al_lex.specs.declared.token.Sort.TheVariants.{Gap, LineEnd, Lexeme}
use Rattle.al_lex.specs.Bytes.{is_line_end, is_blank}
use Rattle.al_lex.specs.Delimiters.{written}
use Rattle.al_lex.specs.Shapes.{IsBlank, IsComment, IsDelimiter, IsLineEnd, IsLongest, IsNumber, IsNumeral, IsOf, IsString}
use Rattle.al_lex.proofs.Prefixes.{head_of_front}
use Rattle.al_lex.proofs.Joined.{both_left, both_right}
use Rattle.al_lex.proofs.Written.{first, short}

-- what the first bytes of each sort of piece are
pub blank_first : (b : ℕ) (xs : List ℕ) → IsBlank (b ∷ xs) → is_blank b ≡ true
blank_first b [] w = w
blank_first b (c ∷ cs) w = absurd w

pub comment_first : (b : ℕ) (xs : List ℕ) → IsComment (b ∷ xs) → (b ≡ 45) × (get_or xs 0 0 ≡ 45)
comment_first b [] w = absurd w
comment_first b (c ∷ cs) w = (w.0, w.1)

pub line_end_first : (b : ℕ) (xs : List ℕ) → IsLineEnd (b ∷ xs) → is_line_end b ≡ true
line_end_first b [] w = w
line_end_first b (c ∷ []) w = ap is_line_end w.0
line_end_first b (c ∷ d ∷ ds) w = absurd w

numeral_first : (xs : List ℕ) → IsNumeral Decimal xs → is_ascii_digit (get_or xs 0 0) ≡ true
numeral_first [] w = absurd w
numeral_first (b ∷ []) w = w
numeral_first (b ∷ c ∷ cs) w = w.0

head_of_append : (n e bs : List ℕ) → IsNumeral Decimal n → bs ≡ n ++ e → get_or n 0 0 ≡ get_or bs 0 0
head_of_append [] e bs w s = absurd w
head_of_append (b ∷ n) e bs w s = sym (ap (λ (xs : List ℕ). get_or xs 0 0) s)

pub number_first : (bs : List ℕ) → IsNumber bs → is_ascii_digit (get_or bs 0 0) ≡ true
number_first bs w = elim w.4 [
  | inl s ↦ ap is_ascii_digit (sym (head_of_append w.0 w.1 bs w.2 s)) ∙ numeral_first w.0 w.2
  | inr s ↦ ap is_ascii_digit (sym (head_of_append w.0 (35 ∷ (s.0 ++ 35 ∷ w.1)) bs w.2 s.2)) ∙ numeral_first w.0 w.2
]

-- sorts by their first bytes
abbrev pub kind_class : Kind → ℕ
kind_class Identifier = 2
kind_class (Reserved w) = 2
kind_class Number = 3
kind_class Str = 4
kind_class (Delimiter d) = 5

abbrev pub class_of : Sort → ℕ
class_of Gap = 0
class_of LineEnd = 1
class_of (Lexeme k) = kind_class k

abbrev pub byte_class : ℕ → ℕ
byte_class b =
    if is_blank b then 0
    else (if is_line_end b then 1
    else (if is_ascii_alphabetic b then 2
    else (if is_ascii_digit b then 3
    else (if b == 34 then 4
    else 5))))

-- of a text that begins with these two
abbrev pub class : ℕ → ℕ → ℕ
class b c = if b == 45 && c == 45 then 0 else byte_class b

-- tests that exclude each other
either : (t : Bool) → (t ≡ true → ⊥) → t ≡ false
either true f = absurd (f refl)
either false f = refl

one_of : (b v w : ℕ) → (b == v || b == w) ≡ true → (b ≡ v) ⊎ (b ≡ w)
one_of b v w h = elim (cases_eq b v) [
  | inl e ↦ inl e
  | inr n ↦ inr (eqb-true b w (let k = rw (ne_eqb b v n) at h in k))
]

blank_not : (p : ℕ → Bool) (b : ℕ) → p 32 ≡ false → p 9 ≡ false → p b ≡ true → is_blank b ≡ false
blank_not p b n m h = either (is_blank b) (λ k. elim (one_of b 32 9 k) [
  | inl e ↦ (let f = ap p (sym e) ∙ h in absurd (cc))
  | inr e ↦ (let f = ap p (sym e) ∙ h in absurd (cc))
])

in_range : (lo hi b : ℕ) → is_in_range lo hi b ≡ true → (lo ≤ b) × (b ≤ hi)
in_range lo hi b h = (leb-true lo b (both_left _ _ h), leb-true b hi (both_right (nat_le lo b) _ h))

letter_range : (b : ℕ) → is_ascii_alphabetic b ≡ true → 65 ≤ b
letter_range b h = letter_from b (is_in_range 65 90 b) refl h
  where
    letter_from : (b : ℕ) (t : Bool) → is_in_range 65 90 b ≡ t → (t || is_in_range 97 122 b) ≡ true → 65 ≤ b
    letter_from b true e h = (in_range 65 90 b e).0
    letter_from b false e h = omega (arith, (in_range 97 122 b h).0)

line_not : (b : ℕ) → 14 ≤ b → is_line_end b ≡ false
line_not b l = either (is_line_end b) (λ k. let r = in_range 10 13 b k in absurd (omega (arith, r.1)))

letter_not : (b : ℕ) → b ≤ 57 → is_ascii_alphabetic b ≡ false
letter_not b l = either (is_ascii_alphabetic b) (λ k. let r = letter_range b k in absurd (omega (arith, r)))

-- no comment begins with such a byte
not_hyphen : (p : ℕ → Bool) (b c : ℕ) → p 45 ≡ false → p b ≡ true → class b c ≡ byte_class b
not_hyphen p b c n h = rw (ne_eqb b 45 (λ e. let f = ap p (sym e) ∙ h in absurd (cc))) refl

blank_class : (b : ℕ) → is_blank b ≡ true → byte_class b ≡ 0
blank_class b h = rw h refl

line_class : (b : ℕ) → is_line_end b ≡ true → byte_class b ≡ 1
line_class b h = rw (blank_not is_line_end b refl refl h, h) refl

letter_class : (b : ℕ) → is_ascii_alphabetic b ≡ true → byte_class b ≡ 2
letter_class b h = let n : is_line_end b ≡ false = line_not b (omega (arith, letter_range b h)) in rw (blank_not is_ascii_alphabetic b refl refl h, n, h) refl

digit_class : (b : ℕ) → is_ascii_digit b ≡ true → byte_class b ≡ 3
digit_class b h =
    let r = in_range 48 57 b h in
    let n : is_line_end b ≡ false = line_not b (omega (arith, r.0)) in
    let l : is_ascii_alphabetic b ≡ false = letter_not b r.1 in
    rw (blank_not is_ascii_digit b refl refl h, n, l, h) refl

delimiter_class : (d : Delim) (b : ℕ) (xs : List ℕ) → written d ≡ b ∷ xs → byte_class b ≡ 5
delimiter_class Ampersand b xs h = ap byte_class (first h)
delimiter_class Apostrophe b xs h = ap byte_class (first h)
delimiter_class LeftParenthesis b xs h = ap byte_class (first h)
delimiter_class RightParenthesis b xs h = ap byte_class (first h)
delimiter_class Asterisk b xs h = ap byte_class (first h)
delimiter_class Plus b xs h = ap byte_class (first h)
delimiter_class Comma b xs h = ap byte_class (first h)
delimiter_class Minus b xs h = ap byte_class (first h)
delimiter_class Dot b xs h = ap byte_class (first h)
delimiter_class Slash b xs h = ap byte_class (first h)
delimiter_class Colon b xs h = ap byte_class (first h)
delimiter_class Semicolon b xs h = ap byte_class (first h)
delimiter_class Less b xs h = ap byte_class (first h)
delimiter_class Equal b xs h = ap byte_class (first h)
delimiter_class Greater b xs h = ap byte_class (first h)
delimiter_class VerticalLine b xs h = ap byte_class (first h)
delimiter_class Arrow b xs h = ap byte_class (first h)
delimiter_class DoubleDot b xs h = ap byte_class (first h)
delimiter_class DoubleAsterisk b xs h = ap byte_class (first h)
delimiter_class Assign b xs h = ap byte_class (first h)
delimiter_class NotEqual b xs h = ap byte_class (first h)
delimiter_class GreaterOrEqual b xs h = ap byte_class (first h)
delimiter_class LessOrEqual b xs h = ap byte_class (first h)
delimiter_class LeftLabelBracket b xs h = ap byte_class (first h)
delimiter_class RightLabelBracket b xs h = ap byte_class (first h)
delimiter_class Box b xs h = ap byte_class (first h)

string_first : (b : ℕ) (xs : List ℕ) → IsString (b ∷ xs) → b ≡ 34
string_first b xs w = let s = w.2 in cc

comment_class : (b c : ℕ) → b ≡ 45 → c ≡ 45 → class b c ≡ 0
comment_class b c x y = ap₂ class x y

-- each sort has its class, but for a delimiter where a comment begins
sort_class : (s : Sort) (b : ℕ) (rest : List ℕ) (n : ℕ) → ((b == 45 && get_or rest 0 0 == 45) ≡ false) ⊎ (class_of s < 5) → IsOf s (b ∷ take n rest) → class b (get_or rest 0 0) ≡ class_of s
sort_class Gap b rest n o (inl w) = let h = blank_first b (take n rest) w in not_hyphen is_blank b (get_or rest 0 0) refl h ∙ blank_class b h
sort_class Gap b rest n o (inr w) = let e = comment_first b (take n rest) w in comment_class b (get_or rest 0 0) e.0 (head_of_front 45 (omega arith) n rest e.1)
sort_class LineEnd b rest n o w = let h = line_end_first b (take n rest) w in not_hyphen is_line_end b (get_or rest 0 0) refl h ∙ line_class b h
sort_class (Lexeme Identifier) b rest n o w = not_hyphen is_ascii_alphabetic b (get_or rest 0 0) refl w.0 ∙ letter_class b w.0
sort_class (Lexeme (Reserved r)) b rest n o w = not_hyphen is_ascii_alphabetic b (get_or rest 0 0) refl w.0 ∙ letter_class b w.0
sort_class (Lexeme Number) b rest n o w = let h = number_first (b ∷ take n rest) w in not_hyphen is_ascii_digit b (get_or rest 0 0) refl h ∙ digit_class b h
sort_class (Lexeme Str) b rest n o w = ap (λ (z : ℕ). class z (get_or rest 0 0)) (string_first b (take n rest) w)
sort_class (Lexeme (Delimiter d)) b rest n (inl h) w = rw h (delimiter_class w.0 b (take n rest) w.1)
sort_class (Lexeme (Delimiter d)) b rest n (inr h) w = absurd (omega arith)

-- sorts of one class are the same on bytes
same_kind : (k j : Kind) (bs : List ℕ) → kind_class j ≡ kind_class k → IsOf (Lexeme j) bs → IsOf (Lexeme k) bs
same_kind Identifier Identifier bs h w = w
same_kind Identifier (Reserved r) bs h w = w
same_kind (Reserved r) Identifier bs h w = w
same_kind (Reserved r) (Reserved q) bs h w = w
same_kind Number Number bs h w = w
same_kind Str Str bs h w = w
same_kind (Delimiter d) (Delimiter e) bs h w = w
same_kind k j bs h w = absurd (omega arith)

kind_above : (k : Kind) → 1 < kind_class k
kind_above Identifier = omega arith
kind_above (Reserved w) = omega arith
kind_above Number = omega arith
kind_above Str = omega arith
kind_above (Delimiter d) = omega arith

same_class : (s t : Sort) (bs : List ℕ) → class_of t ≡ class_of s → IsOf t bs → IsOf s bs
same_class Gap Gap bs h w = w
same_class Gap LineEnd bs h w = absurd (omega arith)
same_class Gap (Lexeme j) bs h w = absurd (omega (arith, h, kind_above j))
same_class LineEnd Gap bs h w = absurd (omega arith)
same_class LineEnd LineEnd bs h w = w
same_class LineEnd (Lexeme j) bs h w = absurd (omega (arith, h, kind_above j))
same_class (Lexeme k) Gap bs h w = absurd (omega (arith, h, kind_above k))
same_class (Lexeme k) LineEnd bs h w = absurd (omega (arith, h, kind_above k))
same_class (Lexeme k) (Lexeme j) bs h w = same_kind k j bs h w

-- a piece that is a delimiter stands where no comment begins
abbrev pub HasNoComment : Sort → List ℕ → Type 0
HasNoComment Gap bs = Unit {0}
HasNoComment LineEnd bs = Unit {0}
HasNoComment (Lexeme Identifier) bs = Unit {0}
HasNoComment (Lexeme (Reserved w)) bs = Unit {0}
HasNoComment (Lexeme Number) bs = Unit {0}
HasNoComment (Lexeme Str) bs = Unit {0}
HasNoComment (Lexeme (Delimiter d)) bs = (get_or bs 0 0 == 45 && get_or bs 1 0 == 45) ≡ false

abbrev pub NotInComment : Result Piece LexCode → List ℕ → Type 0
NotInComment (Ok q) bs = HasNoComment q.sort bs
NotInComment (Err c) bs = Unit {0}

usable : (s : Sort) (b : ℕ) (rest : List ℕ) → HasNoComment s (b ∷ rest) → ((b == 45 && get_or rest 0 0 == 45) ≡ false) ⊎ (class_of s < 5)
usable Gap b rest h = inr (omega arith)
usable LineEnd b rest h = inr (omega arith)
usable (Lexeme Identifier) b rest h = inr (omega arith)
usable (Lexeme (Reserved w)) b rest h = inr (omega arith)
usable (Lexeme Number) b rest h = inr (omega arith)
usable (Lexeme Str) b rest h = inr (omega arith)
usable (Lexeme (Delimiter d)) b rest h = inl h

-- where a comment begins, the front has two bytes at least
over_two : (s : Sort) (b c : ℕ) (rest : List ℕ) (n : ℕ) → HasNoComment s (b ∷ c ∷ rest) → (b == 45 && c == 45) ≡ true → IsLongest (IsOf s) (b ∷ c ∷ rest) (suc n) → 1 < suc n
over_two s b c rest (suc n) h k f = omega arith
over_two s b c rest zero h k f =
    let here : class b c ≡ class_of s = sort_class s b (c ∷ rest) zero (usable s b (c ∷ rest) h) f.piece in
    let gap : class b c ≡ 0 = rw k refl in
    let comment : IsOf Gap (b ∷ c ∷ []) = inr (eqb-true b 45 (both_left _ _ k), eqb-true c 45 (both_right (b == 45) _ k), refl) in
    absurd (f.no_more 2 (omega arith) (omega arith) (same_class s Gap (b ∷ c ∷ []) (sym gap ∙ here) comment))

longer : (s t : Sort) (b : ℕ) (rest : List ℕ) (n m : ℕ) → HasNoComment s (b ∷ rest) → IsLongest (IsOf s) (b ∷ rest) (suc n) → n < m → suc m ≤ length (b ∷ rest) → ((b == 45 && get_or rest 0 0 == 45) ≡ false) ⊎ (class_of t < 5) → IsOf t (b ∷ take m rest) → ⊥
longer s t b rest n m h f l k o w =
    let here : class b (get_or rest 0 0) ≡ class_of s = sort_class s b rest n (usable s b rest h) f.piece in
    let there : class b (get_or rest 0 0) ≡ class_of t = sort_class t b rest m o w in
    f.no_more (suc m) (omega arith) k (same_class s t (b ∷ take m rest) (sym there ∙ here) w)

no_long_delimiter : (s : Sort) (b : ℕ) (rest : List ℕ) (n m : ℕ) → HasNoComment s (b ∷ rest) → (b == 45 && get_or rest 0 0 == 45) ≡ true → IsLongest (IsOf s) (b ∷ rest) (suc n) → n < m → suc m ≤ length (b ∷ rest) → IsDelimiter (b ∷ take m rest) → ⊥
no_long_delimiter s b [] n m h k f l r w = let e = both_right (b == 45) _ k in absurd (cc)
no_long_delimiter s b (c ∷ rest) n m h k f l r w = absurd (omega (arith, over_two s b c rest n h k f, short w.0, ap length w.1, length-take-le m (c ∷ rest) (omega arith)))

delimiter_across : (s : Sort) (d : Delim) (b : ℕ) (rest : List ℕ) (n m : ℕ) → HasNoComment s (b ∷ rest) → IsLongest (IsOf s) (b ∷ rest) (suc n) → n < m → suc m ≤ length (b ∷ rest) → (t : Bool) → (b == 45 && get_or rest 0 0 == 45) ≡ t → IsDelimiter (b ∷ take m rest) → ⊥
delimiter_across s d b rest n m h f l r true k w = no_long_delimiter s b rest n m h k f l r w
delimiter_across s d b rest n m h f l r false k w = longer s (Lexeme (Delimiter d)) b rest n m h f l r (inl k) w

across_at : (s t : Sort) (b : ℕ) (rest : List ℕ) (n m : ℕ) → HasNoComment s (b ∷ rest) → IsLongest (IsOf s) (b ∷ rest) (suc n) → n < m → suc m ≤ length (b ∷ rest) → IsOf t (b ∷ take m rest) → ⊥
across_at s (Lexeme (Delimiter d)) b rest n m h f l r w = delimiter_across s d b rest n m h f l r (b == 45 && get_or rest 0 0 == 45) refl w
across_at s Gap b rest n m h f l r w = longer s Gap b rest n m h f l r (inr (omega arith)) w
across_at s LineEnd b rest n m h f l r w = longer s LineEnd b rest n m h f l r (inr (omega arith)) w
across_at s (Lexeme Identifier) b rest n m h f l r w = longer s (Lexeme Identifier) b rest n m h f l r (inr (omega arith)) w
across_at s (Lexeme (Reserved q)) b rest n m h f l r w = longer s (Lexeme (Reserved q)) b rest n m h f l r (inr (omega arith)) w
across_at s (Lexeme Number) b rest n m h f l r w = longer s (Lexeme Number) b rest n m h f l r (inr (omega arith)) w
across_at s (Lexeme Str) b rest n m h f l r w = longer s (Lexeme Str) b rest n m h f l r (inr (omega arith)) w

-- no longer front is a piece of any sort
pub across : (s t : Sort) (bs : List ℕ) (n m : ℕ) → HasNoComment s bs → IsLongest (IsOf s) bs n → 0 < n → n < m → m ≤ length bs → IsOf t (take m bs) → ⊥
across s t [] n m h f p l r w = absurd (omega arith)
across s t (b ∷ rest) zero m h f p l r w = absurd (omega arith)
across s t (b ∷ rest) (suc n) zero h f p l r w = absurd (omega arith)
across s t (b ∷ rest) (suc n) (suc m) h f p l r w = across_at s t b rest n m h f (omega arith) r w
