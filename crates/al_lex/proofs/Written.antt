-- Delimiters and how they are written.
use Rattle.std.proofs.Common.{ℕ, ◌≡◌, ◌==◌, ◌&&◌, ◌≤◌, Bool, true, false, List, [], ◌∷◌, length, Option, Some, None, refl, sym, ap, ◌∙◌, lit≤, eqb-true}
use Rattle.std.specs.Prelude.{if◌then◌else◌}
use Rattle.al_lex.specs.declared.delimiter.Delimiter.{Delimiter as Delim}
use Rattle.al_lex.specs.declared.delimiter.Delimiter.TheVariants.{Ampersand, Apostrophe, LeftParenthesis, RightParenthesis, Asterisk, Plus, Comma, Minus, Dot, Slash, Colon, Semicolon, Less, Equal, Greater, VerticalLine, Arrow, DoubleDot, DoubleAsterisk, Assign, NotEqual, GreaterOrEqual, LessOrEqual, LeftLabelBracket, RightLabelBracket, Box}
use Rattle.al_lex.specs.Delimiters.{written, double, single}
use Rattle.al_lex.proofs.Joined.{both_left, both_right}

pub first : {x y : ℕ} {xs ys : List ℕ} → x ∷ xs ≡ y ∷ ys → y ≡ x
first e = cc

second : {a x y : ℕ} {b : ℕ} → a ∷ x ∷ [] ≡ b ∷ y ∷ [] → y ≡ x
second e = cc

-- one more case of a delimiter of one byte
pick : (d x : Delim) (b k : ℕ) (rest : Option Delim) (t : Bool) → (b == k) ≡ t → written x ≡ k ∷ [] → (rest ≡ Some d → written d ≡ b ∷ []) → (if t then Some x else rest) ≡ Some d → written d ≡ b ∷ []
pick d x b k rest true e w f h = let s : x ≡ d = cc in let n : b ≡ k = eqb-true b k e in ap written (sym s) ∙ w ∙ ap (λ (z : ℕ). z ∷ []) (sym n)
pick d x b k rest false e w f h = f h

-- of two bytes
pick_pair : (d x : Delim) (b c k l : ℕ) (rest : Option Delim) (t : Bool) → (b == k && c == l) ≡ t → written x ≡ k ∷ l ∷ [] → (rest ≡ Some d → written d ≡ b ∷ c ∷ []) → (if t then Some x else rest) ≡ Some d → written d ≡ b ∷ c ∷ []
pick_pair d x b c k l rest true e w f h =
    let s : x ≡ d = cc in
    let n : b ≡ k = eqb-true b k (both_left _ _ e) in
    let m : c ≡ l = eqb-true c l (both_right (b == k) _ e) in
    ap written (sym s) ∙ w ∙ ap (λ (z : ℕ). z ∷ l ∷ []) (sym n) ∙ ap (λ (z : ℕ). b ∷ z ∷ []) (sym m)
pick_pair d x b c k l rest false e w f h = f h

pub single_written : (b : ℕ) (d : Delim) → single b ≡ Some d → written d ≡ b ∷ []
unfolding single
single_written b d =
    let none : Option Delim = None in
    let r15 : Option Delim = if b == 124 then Some VerticalLine else none in
    let r14 : Option Delim = if b == 62 then Some Greater else r15 in
    let r13 : Option Delim = if b == 61 then Some Equal else r14 in
    let r12 : Option Delim = if b == 60 then Some Less else r13 in
    let r11 : Option Delim = if b == 59 then Some Semicolon else r12 in
    let r10 : Option Delim = if b == 58 then Some Colon else r11 in
    let r9 : Option Delim = if b == 47 then Some Slash else r10 in
    let r8 : Option Delim = if b == 46 then Some Dot else r9 in
    let r7 : Option Delim = if b == 45 then Some Minus else r8 in
    let r6 : Option Delim = if b == 44 then Some Comma else r7 in
    let r5 : Option Delim = if b == 43 then Some Plus else r6 in
    let r4 : Option Delim = if b == 42 then Some Asterisk else r5 in
    let r3 : Option Delim = if b == 41 then Some RightParenthesis else r4 in
    let r2 : Option Delim = if b == 40 then Some LeftParenthesis else r3 in
    let r1 : Option Delim = if b == 39 then Some Apostrophe else r2 in
    pick d Ampersand b 38 r1 (b == 38) refl refl
    (pick d Apostrophe b 39 r2 (b == 39) refl refl
    (pick d LeftParenthesis b 40 r3 (b == 40) refl refl
    (pick d RightParenthesis b 41 r4 (b == 41) refl refl
    (pick d Asterisk b 42 r5 (b == 42) refl refl
    (pick d Plus b 43 r6 (b == 43) refl refl
    (pick d Comma b 44 r7 (b == 44) refl refl
    (pick d Minus b 45 r8 (b == 45) refl refl
    (pick d Dot b 46 r9 (b == 46) refl refl
    (pick d Slash b 47 r10 (b == 47) refl refl
    (pick d Colon b 58 r11 (b == 58) refl refl
    (pick d Semicolon b 59 r12 (b == 59) refl refl
    (pick d Less b 60 r13 (b == 60) refl refl
    (pick d Equal b 61 r14 (b == 61) refl refl
    (pick d Greater b 62 r15 (b == 62) refl refl
    (pick d VerticalLine b 124 none (b == 124) refl refl
    (λ e. absurd (cc)))))))))))))))))

pub double_written : (b c : ℕ) (d : Delim) → double b c ≡ Some d → written d ≡ b ∷ c ∷ []
unfolding double
double_written b c d =
    let none : Option Delim = None in
    let r9 : Option Delim = if b == 60 && c == 62 then Some Box else none in
    let r8 : Option Delim = if b == 62 && c == 62 then Some RightLabelBracket else r9 in
    let r7 : Option Delim = if b == 60 && c == 60 then Some LeftLabelBracket else r8 in
    let r6 : Option Delim = if b == 60 && c == 61 then Some LessOrEqual else r7 in
    let r5 : Option Delim = if b == 62 && c == 61 then Some GreaterOrEqual else r6 in
    let r4 : Option Delim = if b == 47 && c == 61 then Some NotEqual else r5 in
    let r3 : Option Delim = if b == 58 && c == 61 then Some Assign else r4 in
    let r2 : Option Delim = if b == 42 && c == 42 then Some DoubleAsterisk else r3 in
    let r1 : Option Delim = if b == 46 && c == 46 then Some DoubleDot else r2 in
    pick_pair d Arrow b c 61 62 r1 (b == 61 && c == 62) refl refl
    (pick_pair d DoubleDot b c 46 46 r2 (b == 46 && c == 46) refl refl
    (pick_pair d DoubleAsterisk b c 42 42 r3 (b == 42 && c == 42) refl refl
    (pick_pair d Assign b c 58 61 r4 (b == 58 && c == 61) refl refl
    (pick_pair d NotEqual b c 47 61 r5 (b == 47 && c == 61) refl refl
    (pick_pair d GreaterOrEqual b c 62 61 r6 (b == 62 && c == 61) refl refl
    (pick_pair d LessOrEqual b c 60 61 r7 (b == 60 && c == 61) refl refl
    (pick_pair d LeftLabelBracket b c 60 60 r8 (b == 60 && c == 60) refl refl
    (pick_pair d RightLabelBracket b c 62 62 r9 (b == 62 && c == 62) refl refl
    (pick_pair d Box b c 60 62 none (b == 60 && c == 62) refl refl
    (λ e. absurd (cc)))))))))))

-- each that is written with one byte is found
pub written_single : (b : ℕ) (d : Delim) → written d ≡ b ∷ [] → single b ≡ Some d
unfolding single
written_single b Ampersand h = rw (first h) refl
written_single b Apostrophe h = rw (first h) refl
written_single b LeftParenthesis h = rw (first h) refl
written_single b RightParenthesis h = rw (first h) refl
written_single b Asterisk h = rw (first h) refl
written_single b Plus h = rw (first h) refl
written_single b Comma h = rw (first h) refl
written_single b Minus h = rw (first h) refl
written_single b Dot h = rw (first h) refl
written_single b Slash h = rw (first h) refl
written_single b Colon h = rw (first h) refl
written_single b Semicolon h = rw (first h) refl
written_single b Less h = rw (first h) refl
written_single b Equal h = rw (first h) refl
written_single b Greater h = rw (first h) refl
written_single b VerticalLine h = rw (first h) refl
written_single b Arrow h = absurd (cc)
written_single b DoubleDot h = absurd (cc)
written_single b DoubleAsterisk h = absurd (cc)
written_single b Assign h = absurd (cc)
written_single b NotEqual h = absurd (cc)
written_single b GreaterOrEqual h = absurd (cc)
written_single b LessOrEqual h = absurd (cc)
written_single b LeftLabelBracket h = absurd (cc)
written_single b RightLabelBracket h = absurd (cc)
written_single b Box h = absurd (cc)

-- and each of two bytes
pub written_double : (b c : ℕ) (d : Delim) → written d ≡ b ∷ c ∷ [] → double b c ≡ Some d
unfolding double
written_double b c Ampersand h = absurd (cc)
written_double b c Apostrophe h = absurd (cc)
written_double b c LeftParenthesis h = absurd (cc)
written_double b c RightParenthesis h = absurd (cc)
written_double b c Asterisk h = absurd (cc)
written_double b c Plus h = absurd (cc)
written_double b c Comma h = absurd (cc)
written_double b c Minus h = absurd (cc)
written_double b c Dot h = absurd (cc)
written_double b c Slash h = absurd (cc)
written_double b c Colon h = absurd (cc)
written_double b c Semicolon h = absurd (cc)
written_double b c Less h = absurd (cc)
written_double b c Equal h = absurd (cc)
written_double b c Greater h = absurd (cc)
written_double b c VerticalLine h = absurd (cc)
written_double b c Arrow h = rw (first h, second h) refl
written_double b c DoubleDot h = rw (first h, second h) refl
written_double b c DoubleAsterisk h = rw (first h, second h) refl
written_double b c Assign h = rw (first h, second h) refl
written_double b c NotEqual h = rw (first h, second h) refl
written_double b c GreaterOrEqual h = rw (first h, second h) refl
written_double b c LessOrEqual h = rw (first h, second h) refl
written_double b c LeftLabelBracket h = rw (first h, second h) refl
written_double b c RightLabelBracket h = rw (first h, second h) refl
written_double b c Box h = rw (first h, second h) refl

-- none is longer
pub short : (d : Delim) → length (written d) ≤ 2
short Ampersand = lit≤ tt
short Apostrophe = lit≤ tt
short LeftParenthesis = lit≤ tt
short RightParenthesis = lit≤ tt
short Asterisk = lit≤ tt
short Plus = lit≤ tt
short Comma = lit≤ tt
short Minus = lit≤ tt
short Dot = lit≤ tt
short Slash = lit≤ tt
short Colon = lit≤ tt
short Semicolon = lit≤ tt
short Less = lit≤ tt
short Equal = lit≤ tt
short Greater = lit≤ tt
short VerticalLine = lit≤ tt
short Arrow = lit≤ tt
short DoubleDot = lit≤ tt
short DoubleAsterisk = lit≤ tt
short Assign = lit≤ tt
short NotEqual = lit≤ tt
short GreaterOrEqual = lit≤ tt
short LessOrEqual = lit≤ tt
short LeftLabelBracket = lit≤ tt
short RightLabelBracket = lit≤ tt
short Box = lit≤ tt
