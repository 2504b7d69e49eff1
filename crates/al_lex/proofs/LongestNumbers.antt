-- The longest numbers.
use Rattle.std.proofs.Common.{ℕ, zero, suc, ◌≡◌, ◌==◌, ◌+◌, ◌<◌, ◌≤◌, ◌⊎◌, inl, inr, Bool, true, false, ◌&&◌, ◌||◌, List, [], ◌∷◌, ◌++◌, length, take, drop, refl, sym, ap, ◌∙◌, subst, get_or, get_or-drop, length-drop, append_assoc, add-zero, arith, eqb-true, eq-eqb, ne_eqb}
use Rattle.std.specs.Char.{is_ascii_digit}
use Rattle.std.proofs.lemmas.Bool.{cases_eq, cases_lt, or_left}
use Rattle.std.proofs.lemmas.List.{drop-drop, get_or_past, take_more}
use Rattle.std.proofs.Math.Seq.{take-add}
use Rattle.al_lex.specs.declared.numbers.Digits.{Digits}
use Rattle.al_lex.specs.declared.numbers.Digits.TheVariants.{Decimal, Hexadecimal}
use Rattle.al_lex.specs.Numbers.{based_len, exponent_len, exponent_start, goes_on, is_digit, number_len, numeral_len, parts_of, run_len, with_hashes, with_start}
use Rattle.al_lex.specs.Shapes.{IsExponent, IsLongest, IsNumber, IsNumeral}
use Rattle.al_lex.proofs.Numerals.{goes, ends, numeral_is}
use Rattle.al_lex.proofs.Prefixes.{left_part, parts_length, right_part}
use Rattle.al_lex.proofs.Joined.{both_left, both_right}

-- neither the byte after the end nor an underscore is a digit
no_digit : (d : Digits) → is_digit d 0 ≡ true → ⊥
no_digit Decimal h = absurd (cc)
no_digit Hexadecimal h = absurd (cc)

no_digit_hash : (d : Digits) → is_digit d 35 ≡ true → ⊥
no_digit_hash Decimal h = absurd (cc)
no_digit_hash Hexadecimal h = absurd (cc)

space_goes : (d : Digits) (c : ℕ) → is_digit d c ≡ true → goes_on d 95 c ≡ true
space_goes Decimal c h = h
space_goes Hexadecimal c h = h

pub from_digit : (d : Digits) (b : ℕ) (bs : List ℕ) → is_digit d b ≡ true → run_len d (b ∷ bs) ≡ 1 + run_len d bs
from_digit d b bs h = goes d b bs (or_left (is_digit d b) (b == 95 && is_digit d (get_or bs 0 0)) h)

from_space : (d : Digits) (b : ℕ) (bs : List ℕ) → b ≡ 95 → is_digit d (get_or bs 0 0) ≡ true → run_len d (b ∷ bs) ≡ 1 + run_len d bs
from_space d b bs e h = goes d b bs (ap (λ (z : ℕ). goes_on d z (get_or bs 0 0)) e ∙ space_goes d (get_or bs 0 0) h)

-- the second byte of a numeral
pub data Second (d : Digits) (c : ℕ) (cs : List ℕ) : Type 0 where
  digit : is_digit d c ≡ true → Second d c cs
  space : c ≡ 95 → is_digit d (get_or cs 0 0) ≡ true → Second d c cs
  over : run_len d (c ∷ cs) ≡ 0 → Second d c cs

second_else : (d : Digits) (c : ℕ) (cs : List ℕ) → is_digit d c ≡ false → (t : Bool) → (c == 95 && is_digit d (get_or cs 0 0)) ≡ t → Second d c cs
second_else d c cs n true h = space (eqb-true c 95 (both_left _ _ h)) (both_right (c == 95) _ h)
second_else d c cs n false h = over (ends d c cs (rw n h))

second_of : (d : Digits) (c : ℕ) (cs : List ℕ) (t : Bool) → is_digit d c ≡ t → Second d c cs
second_of d c cs true h = digit h
second_of d c cs false h = second_else d c cs h (c == 95 && is_digit d (get_or cs 0 0)) refl

-- the run that begins with a digit is a numeral
is_numeral : (d : Digits) (bs : List ℕ) (n : ℕ) → n ≡ run_len d bs → is_digit d (get_or bs 0 0) ≡ true → IsNumeral d (take n bs)
unfolding run_len
is_numeral d [] n e h = absurd (no_digit d h)
is_numeral d (b ∷ bs) zero e h = absurd (omega (arith, e, from_digit d b bs h))
is_numeral d (b ∷ []) (suc zero) e h = h
is_numeral d (b ∷ []) (suc (suc n)) e h = absurd (omega (arith, e, from_digit d b [] h))
is_numeral d (b ∷ c ∷ cs) (suc zero) e h = h
is_numeral d (b ∷ c ∷ cs) (suc (suc n)) e h =
    let whole = from_digit d b (c ∷ cs) h in
    elim (second_of d c cs (is_digit d c) refl) [
      | digit t ↦ (h, inl (is_numeral d (c ∷ cs) (suc n) (omega (arith, e, whole)) t))
      | space s t ↦ (h, inr (s, is_numeral d cs n (omega (arith, e, whole, from_space d c cs s t)) t))
      | over z ↦ absurd (omega (arith, e, whole, z))
    ]

pub numeral_first : (d : Digits) (xs : List ℕ) → IsNumeral d xs → is_digit d (get_or xs 0 0) ≡ true
numeral_first d [] w = absurd w
numeral_first d (b ∷ []) w = w
numeral_first d (b ∷ c ∷ cs) w = w.0

head_digit : (d : Digits) (m : ℕ) (xs : List ℕ) → is_digit d (get_or (take m xs) 0 0) ≡ true → is_digit d (get_or xs 0 0) ≡ true
head_digit d zero xs h = absurd (no_digit d h)
head_digit d (suc m) [] h = absurd (no_digit d h)
head_digit d (suc m) (x ∷ xs) h = h

-- no longer front is one
numeral_max : (d : Digits) (bs : List ℕ) (m : ℕ) → m ≤ length bs → IsNumeral d (take m bs) → m ≤ run_len d bs
numeral_max d bs zero l w = absurd w
numeral_max d [] (suc m) l w = absurd (omega arith)
numeral_max d (b ∷ bs) (suc zero) l w = omega (arith, from_digit d b bs w)
numeral_max d (b ∷ []) (suc (suc m)) l w = absurd (omega arith)
numeral_max d (b ∷ c ∷ cs) (suc (suc m)) l w = elim w.1 [
  | inl v ↦ omega (arith, from_digit d b (c ∷ cs) w.0, numeral_max d (c ∷ cs) (suc m) (omega arith) v)
  | inr v ↦ omega (arith, from_digit d b (c ∷ cs) w.0, from_space d c cs v.0 (head_digit d m cs (numeral_first d (take m cs) v.1)), numeral_max d cs m (omega arith) v.1)
]

-- a byte of a run
goes_byte : (d : Digits) (b c : ℕ) (t : Bool) → is_digit d b ≡ t → goes_on d b c ≡ true → (is_digit d b ≡ true) ⊎ (b ≡ 95)
goes_byte d b c true h g = inl h
goes_byte d b c false h g = inr (eqb-true b 95 (both_left _ (is_digit d c) (let e = rw h at g in e)))

inside_from : (d : Digits) (b : ℕ) (bs : List ℕ) (m : ℕ) → m < run_len d (b ∷ bs) → (t : Bool) → goes_on d b (get_or bs 0 0) ≡ t → goes_on d b (get_or bs 0 0) ≡ true
inside_from d b bs m l true h = h
inside_from d b bs m l false h = absurd (omega (arith, l, ends d b bs h))

inside_run : (d : Digits) (bs : List ℕ) (m : ℕ) → m < run_len d bs → (is_digit d (get_or bs m 0) ≡ true) ⊎ (get_or bs m 0 ≡ 95)
unfolding run_len
inside_run d [] m l = absurd (omega (arith, l))
inside_run d (b ∷ bs) zero l = goes_byte d b (get_or bs 0 0) (is_digit d b) refl (inside_from d b bs zero l (goes_on d b (get_or bs 0 0)) refl)
inside_run d (b ∷ bs) (suc m) l = inside_run d bs m (omega (arith, l, goes d b bs (inside_from d b bs (suc m) l (goes_on d b (get_or bs 0 0)) refl)))

-- a numeral that a byte of no numeral follows is all of the run
ends_run : (d : Digits) (bs : List ℕ) (m : ℕ) → m ≤ run_len d bs → (is_digit d (get_or bs m 0) ≡ true → ⊥) → (get_or bs m 0 ≡ 95 → ⊥) → m ≡ run_len d bs
ends_run d bs m l f g = elim (cases_lt m (run_len d bs)) [
  | inl k ↦ elim (inside_run d bs m k) [ inl h ↦ absurd (f h) | inr h ↦ absurd (g h) ]
  | inr k ↦ omega arith
]

no_numeral : (d : Digits) (bs : List ℕ) → is_digit d (get_or bs 0 0) ≡ false → numeral_len d bs ≡ 0
no_numeral d bs h = rw h refl

some_run : (d : Digits) (bs : List ℕ) → is_digit d (get_or bs 0 0) ≡ true → 0 < run_len d bs
some_run d [] h = absurd (no_digit d h)
some_run d (b ∷ bs) h = omega (arith, from_digit d b bs h)

-- exponents
abbrev pub exponent_part : List ℕ → ℕ
exponent_part bs = with_start (exponent_start bs) (exponent_len bs)

abbrev pub is_e : ℕ → Bool
is_e b = b == 69 || b == 101

some_start : (s n : ℕ) → 0 < n → with_start s n ≡ s + n
some_start s n l = rw (ne_eqb n 0 (λ e. absurd (omega arith))) refl

no_e : (b : ℕ) (rest : List ℕ) → is_e b ≡ false → exponent_part (b ∷ rest) ≡ 0
no_e b rest h = rw h refl

with_plus : (b : ℕ) (cs : List ℕ) → is_e b ≡ true → exponent_part (b ∷ 43 ∷ cs) ≡ with_start 2 (numeral_len Decimal cs)
with_plus b cs h = rw h refl

no_plus : (b : ℕ) (rest : List ℕ) → is_e b ≡ true → (get_or rest 0 0 ≡ 43 → ⊥) → exponent_part (b ∷ rest) ≡ with_start 1 (numeral_len Decimal rest)
no_plus b rest h n = rw (ne_eqb (get_or rest 0 0) 43 n, h) refl

digit_no_plus : (c : ℕ) → is_ascii_digit c ≡ true → c ≡ 43 → ⊥
digit_no_plus c h e = let k = ap is_ascii_digit (sym e) ∙ h in absurd (cc)

exponent_max : (bs : List ℕ) (j : ℕ) → j ≤ length bs → IsExponent (take j bs) → j ≤ exponent_part bs
exponent_max bs zero l w = omega arith
exponent_max [] (suc j) l w = absurd (omega arith)
exponent_max (b ∷ bs) (suc zero) l w = absurd w
exponent_max (b ∷ []) (suc (suc j)) l w = absurd (omega arith)
exponent_max (b ∷ c ∷ cs) (suc (suc j)) l w = elim w.1 [
  | inl v ↦
      let first : is_ascii_digit c ≡ true = numeral_first Decimal (c ∷ take j cs) v in
      let whole : numeral_len Decimal (c ∷ cs) ≡ run_len Decimal (c ∷ cs) = numeral_is Decimal (c ∷ cs) first in
      let most : suc j ≤ run_len Decimal (c ∷ cs) = numeral_max Decimal (c ∷ cs) (suc j) (omega arith) v in
      omega (arith, no_plus b (c ∷ cs) w.0 (digit_no_plus c first), whole, most, some_start 1 (numeral_len Decimal (c ∷ cs)) (omega (arith, whole, most)))
  | inr v ↦
      let first : is_ascii_digit (get_or cs 0 0) ≡ true = head_digit Decimal j cs (numeral_first Decimal (take j cs) v.1) in
      let whole : numeral_len Decimal cs ≡ run_len Decimal cs = numeral_is Decimal cs first in
      let most : j ≤ run_len Decimal cs = numeral_max Decimal cs j (omega arith) v.1 in
      let some : 0 < run_len Decimal cs = some_run Decimal cs first in
      let part : exponent_part (b ∷ c ∷ cs) ≡ with_start 2 (numeral_len Decimal cs) = ap (λ (z : ℕ). exponent_part (b ∷ z ∷ cs)) v.0 ∙ with_plus b cs w.0 in
      omega (arith, part, whole, most, some, some_start 2 (numeral_len Decimal cs) (omega (arith, whole, some)))
]

at_zero : (bs : List ℕ) (n : ℕ) → n ≡ 0 → IsExponent (take n bs)
at_zero bs n e = subst (λ (k : ℕ). IsExponent (take k bs)) (sym e) tt

after_plus : (b : ℕ) (cs : List ℕ) → is_e b ≡ true → (t : Bool) → is_ascii_digit (get_or cs 0 0) ≡ t → IsExponent (take (exponent_part (b ∷ 43 ∷ cs)) (b ∷ 43 ∷ cs))
after_plus b cs h true k =
    let n = run_len Decimal cs in
    let whole : numeral_len Decimal cs ≡ n = numeral_is Decimal cs k in
    let len : suc (suc n) ≡ exponent_part (b ∷ 43 ∷ cs) = omega (arith, with_plus b cs h, whole, some_run Decimal cs k, some_start 2 (numeral_len Decimal cs) (omega (arith, whole, some_run Decimal cs k))) in
    subst (λ (z : ℕ). IsExponent (take z (b ∷ 43 ∷ cs))) len (h, inr (refl, is_numeral Decimal cs n refl k))
after_plus b cs h false k = at_zero (b ∷ 43 ∷ cs) (exponent_part (b ∷ 43 ∷ cs)) (with_plus b cs h ∙ ap (with_start 2) (no_numeral Decimal cs k))

after_digit : (b c : ℕ) (cs : List ℕ) (n : ℕ) → n ≡ run_len Decimal (c ∷ cs) → is_e b ≡ true → is_ascii_digit c ≡ true → IsExponent (take (suc n) (b ∷ c ∷ cs))
after_digit b c cs zero e h k = absurd (omega (arith, e, some_run Decimal (c ∷ cs) k))
after_digit b c cs (suc n) e h k = (h, inl (is_numeral Decimal (c ∷ cs) (suc n) e k))

after_other : (b : ℕ) (rest : List ℕ) → is_e b ≡ true → (get_or rest 0 0 ≡ 43 → ⊥) → (t : Bool) → is_ascii_digit (get_or rest 0 0) ≡ t → IsExponent (take (exponent_part (b ∷ rest)) (b ∷ rest))
after_other b [] h n true k = absurd (no_digit Decimal k)
after_other b (c ∷ cs) h n true k =
    let whole : numeral_len Decimal (c ∷ cs) ≡ run_len Decimal (c ∷ cs) = numeral_is Decimal (c ∷ cs) k in
    let some : 0 < run_len Decimal (c ∷ cs) = some_run Decimal (c ∷ cs) k in
    let len : suc (run_len Decimal (c ∷ cs)) ≡ exponent_part (b ∷ c ∷ cs) = omega (arith, no_plus b (c ∷ cs) h n, whole, some, some_start 1 (numeral_len Decimal (c ∷ cs)) (omega (arith, whole, some))) in
    subst (λ (z : ℕ). IsExponent (take z (b ∷ c ∷ cs))) len (after_digit b c cs (run_len Decimal (c ∷ cs)) refl h k)
after_other b rest h n false k = at_zero (b ∷ rest) (exponent_part (b ∷ rest)) (no_plus b rest h n ∙ ap (with_start 1) (no_numeral Decimal rest k))

after_e : (b : ℕ) (rest : List ℕ) → is_e b ≡ true → IsExponent (take (exponent_part (b ∷ rest)) (b ∷ rest))
after_e b [] h = after_other b [] h (λ e. absurd (omega arith)) (is_ascii_digit 0) refl
after_e b (c ∷ cs) h = elim (cases_eq c 43) [
  | inl e ↦ subst (λ (z : ℕ). IsExponent (take (exponent_part (b ∷ z ∷ cs)) (b ∷ z ∷ cs))) (sym e) (after_plus b cs h (is_ascii_digit (get_or cs 0 0)) refl)
  | inr n ↦ after_other b (c ∷ cs) h n (is_ascii_digit c) refl
]

exponent_from : (b : ℕ) (rest : List ℕ) (t : Bool) → is_e b ≡ t → IsExponent (take (exponent_part (b ∷ rest)) (b ∷ rest))
exponent_from b rest true h = after_e b rest h
exponent_from b rest false h = at_zero (b ∷ rest) (exponent_part (b ∷ rest)) (no_e b rest h)

is_exponent : (bs : List ℕ) → IsExponent (take (exponent_part bs) bs)
is_exponent [] = tt
is_exponent (b ∷ rest) = exponent_from b rest (is_e b) refl

-- whole numbers
tail_of_front : (m : ℕ) (xs : List ℕ) (h : ℕ) (t : List ℕ) → take (suc m) xs ≡ h ∷ t → take m (drop 1 xs) ≡ t
tail_of_front m [] h t e = absurd (cc)
tail_of_front m (x ∷ xs) h t e = cc

head_of : (m : ℕ) (xs : List ℕ) (h : ℕ) (t : List ℕ) → take m xs ≡ h ∷ t → get_or xs 0 0 ≡ h
head_of zero xs h t e = absurd (cc)
head_of (suc m) [] h t e = absurd (cc)
head_of (suc m) (x ∷ xs) h t e = cc

pub byte_at : (n : ℕ) (bs : List ℕ) → get_or (drop n bs) 0 0 ≡ get_or bs n 0
byte_at n bs = get_or-drop n bs 0 0 ∙ ap (λ (k : ℕ). get_or bs k 0) (add-zero n)

exponent_first : (b : ℕ) (xs : List ℕ) → IsExponent (b ∷ xs) → is_e b ≡ true
exponent_first b [] w = absurd w
exponent_first b (c ∷ cs) w = w.0

e_no_digit : (b : ℕ) → is_e b ≡ true → is_ascii_digit b ≡ true → ⊥
e_no_digit b h k = elim (cases_eq b 69) [
  | inl e ↦ let f = ap is_ascii_digit (sym e) ∙ k in absurd (cc)
  | inr n ↦ let g : (b == 101) ≡ true = (let f = rw (ne_eqb b 69 n) at h in f) in let f = ap is_ascii_digit (sym (eqb-true b 101 g)) ∙ k in absurd (cc)
]

e_is_not : (v b : ℕ) → is_e v ≡ false → is_e b ≡ true → b ≡ v → ⊥
e_is_not v b n h e = let f = ap is_e (sym e) ∙ h in absurd (cc)

not_based : (bs : List ℕ) → (get_or bs 0 0 ≡ 35 → ⊥) → based_len bs ≡ 0
not_based bs n = rw (ne_eqb (get_or bs 0 0) 35 n) refl

is_based : (bs : List ℕ) (x : ℕ) → numeral_len Hexadecimal (drop 1 bs) ≡ x → get_or bs 0 0 ≡ 35 → get_or (drop 1 bs) x 0 ≡ 35 → based_len bs ≡ x
is_based bs x e h k =
    let there : get_or (drop 1 bs) (numeral_len Hexadecimal (drop 1 bs)) 0 ≡ 35 = ap (λ (n : ℕ). get_or (drop 1 bs) n 0) e ∙ k in
    rw (eq-eqb (get_or bs 0 0) 35 h, eq-eqb (get_or (drop 1 bs) (numeral_len Hexadecimal (drop 1 bs)) 0) 35 there) e

some_hashes : (x : ℕ) → 0 < x → with_hashes x ≡ x + 2
some_hashes x l = rw (ne_eqb x 0 (λ e. absurd (omega arith))) refl

len_is : (bs : List ℕ) → number_len (parts_of bs) ≡ numeral_len Decimal bs + with_hashes (based_len (drop (numeral_len Decimal bs) bs)) + exponent_part (drop (numeral_len Decimal bs + with_hashes (based_len (drop (numeral_len Decimal bs) bs))) bs)
unfolding parts_of
len_is bs = refl

-- a number whose exponent is in range
reaches : (bs : List ℕ) (n h j : ℕ) → numeral_len Decimal bs ≡ n → with_hashes (based_len (drop n bs)) ≡ h → j ≤ exponent_part (drop (n + h) bs) → n + h + j ≤ number_len (parts_of bs)
reaches bs n h j e f l =
    let same : numeral_len Decimal bs + with_hashes (based_len (drop (numeral_len Decimal bs) bs)) ≡ n + h =
    ap (λ (k : ℕ). k + with_hashes (based_len (drop k bs))) e ∙ ap (λ (k : ℕ). n + k) f in
    let part : exponent_part (drop (numeral_len Decimal bs + with_hashes (based_len (drop (numeral_len Decimal bs) bs))) bs) ≡ exponent_part (drop (n + h) bs) = ap (λ (k : ℕ). exponent_part (drop k bs)) same in
    omega (arith, len_is bs, same, part, l)

-- a numeral alone, or with an exponent
plain_max : (bs : List ℕ) (m : ℕ) → m ≤ length bs → (n e : List ℕ) → IsNumeral Decimal n → IsExponent e → take m bs ≡ n ++ e → m ≤ number_len (parts_of bs)
plain_max bs m l n [] wn we s =
    let front : IsNumeral Decimal (take (length n) bs) = subst (IsNumeral Decimal) (sym (left_part n [] bs m s)) wn in
    let lens : length n + 0 ≡ m = parts_length n [] bs m l s in
    let most = numeral_max Decimal bs (length n) (omega arith) front in
    let whole = numeral_is Decimal bs (head_digit Decimal (length n) bs (numeral_first Decimal (take (length n) bs) front)) in
    omega (arith, len_is bs, most, whole)
plain_max bs m l n (b ∷ e) wn we s =
    let front : IsNumeral Decimal (take (length n) bs) = subst (IsNumeral Decimal) (sym (left_part n (b ∷ e) bs m s)) wn in
    let lens : length n + length (b ∷ e) ≡ m = parts_length n (b ∷ e) bs m l s in
    let most = numeral_max Decimal bs (length n) (omega arith) front in
    let whole = numeral_is Decimal bs (head_digit Decimal (length n) bs (numeral_first Decimal (take (length n) bs) front)) in
    let rest : take (length (b ∷ e)) (drop (length n) bs) ≡ b ∷ e = right_part n (b ∷ e) bs m l s in
    let head : get_or (drop (length n) bs) 0 0 ≡ b = head_of (length (b ∷ e)) (drop (length n) bs) b e rest in
    let there : get_or bs (length n) 0 ≡ b = sym (byte_at (length n) bs) ∙ head in
    let ise : is_e (get_or bs (length n) 0) ≡ true = ap is_e there ∙ exponent_first b e we in
    let all : length n ≡ run_len Decimal bs = ends_run Decimal bs (length n) most (e_no_digit (get_or bs (length n) 0) ise) (e_is_not 95 (get_or bs (length n) 0) refl ise) in
    let none : with_hashes (based_len (drop (length n) bs)) ≡ 0 = ap with_hashes (not_based (drop (length n) bs) (λ h. e_is_not 35 (get_or bs (length n) 0) refl ise (sym (byte_at (length n) bs) ∙ h))) in
    let zero_more : drop (length n) bs ≡ drop (length n + 0) bs = ap (λ (k : ℕ). drop k bs) (sym (add-zero (length n))) in
    let room : length (b ∷ e) ≤ length (drop (length n + 0) bs) = omega (arith, length-drop (length n + 0) bs) in
    let exponent : IsExponent (take (length (b ∷ e)) (drop (length n + 0) bs)) = subst (λ (xs : List ℕ). IsExponent (take (length (b ∷ e)) xs)) zero_more (subst IsExponent (sym rest) we) in
    omega (arith, lens, reaches bs (length n) 0 (length (b ∷ e)) (whole ∙ sym all) none (exponent_max (drop (length n + 0) bs) (length (b ∷ e)) room exponent))

-- with a base
based_max : (bs : List ℕ) (m : ℕ) → m ≤ length bs → (n e x : List ℕ) → IsNumeral Decimal n → IsExponent e → IsNumeral Hexadecimal x → take m bs ≡ n ++ 35 ∷ (x ++ 35 ∷ e) → m ≤ number_len (parts_of bs)
based_max bs m l n e x wn we wx s =
    let tail : List ℕ = x ++ 35 ∷ e in
    let front : IsNumeral Decimal (take (length n) bs) = subst (IsNumeral Decimal) (sym (left_part n (35 ∷ tail) bs m s)) wn in
    let lens : length n + length (35 ∷ tail) ≡ m = parts_length n (35 ∷ tail) bs m l s in
    let most = numeral_max Decimal bs (length n) (omega arith) front in
    let whole = numeral_is Decimal bs (head_digit Decimal (length n) bs (numeral_first Decimal (take (length n) bs) front)) in
    let ys : List ℕ = drop (length n) bs in
    let rest : take (suc (length tail)) ys ≡ 35 ∷ tail = right_part n (35 ∷ tail) bs m l s in
    let hash : get_or ys 0 0 ≡ 35 = head_of (suc (length tail)) ys 35 tail rest in
    let there : get_or bs (length n) 0 ≡ 35 = sym (byte_at (length n) bs) ∙ hash in
    let all : length n ≡ run_len Decimal bs = ends_run Decimal bs (length n) most (λ h. no_digit_hash Decimal (ap is_ascii_digit (sym there) ∙ h)) (λ h. absurd (omega arith)) in
    let zs : List ℕ = drop 1 ys in
    let inner : take (length tail) zs ≡ x ++ 35 ∷ e = tail_of_front (length tail) ys 35 tail rest in
    let room : length tail ≤ length zs = omega (arith, length-drop 1 ys, length-drop (length n) bs) in
    let digits : IsNumeral Hexadecimal (take (length x) zs) = subst (IsNumeral Hexadecimal) (sym (left_part x (35 ∷ e) zs (length tail) inner)) wx in
    let inner_lens : length x + length (35 ∷ e) ≡ length tail = parts_length x (35 ∷ e) zs (length tail) room inner in
    let inner_most = numeral_max Hexadecimal zs (length x) (omega arith) digits in
    let inner_first = head_digit Hexadecimal (length x) zs (numeral_first Hexadecimal (take (length x) zs) digits) in
    let inner_whole = numeral_is Hexadecimal zs inner_first in
    let after : take (suc (length e)) (drop (length x) zs) ≡ 35 ∷ e = right_part x (35 ∷ e) zs (length tail) room inner in
    let second : get_or zs (length x) 0 ≡ 35 = sym (byte_at (length x) zs) ∙ head_of (suc (length e)) (drop (length x) zs) 35 e after in
    let inner_all : length x ≡ run_len Hexadecimal zs = ends_run Hexadecimal zs (length x) inner_most (λ h. no_digit_hash Hexadecimal (ap (is_digit Hexadecimal) (sym second) ∙ h)) (λ h. absurd (omega arith)) in
    let some : 0 < length x = omega (arith, inner_all, some_run Hexadecimal zs inner_first) in
    let hashes : with_hashes (based_len ys) ≡ length x + 2 = ap with_hashes (is_based ys (length x) (inner_whole ∙ sym inner_all) hash second) ∙ some_hashes (length x) some in
    let at_end : drop 1 (drop (length x) zs) ≡ drop (length n + (length x + 2)) bs =
    drop-drop 1 (length x) zs ∙ drop-drop (length x + 1) 1 ys ∙ drop-drop (1 + (length x + 1)) (length n) bs ∙ ap (λ (k : ℕ). drop k bs) (let q : length n + (1 + (length x + 1)) ≡ length n + (length x + 2) = omega arith in q) in
    let last : take (length e) (drop (length n + (length x + 2)) bs) ≡ e = ap (λ (ks : List ℕ). take (length e) ks) (sym at_end) ∙ tail_of_front (length e) (drop (length x) zs) 35 e after in
    let last_room : length e ≤ length (drop (length n + (length x + 2)) bs) = omega (arith, length-drop (length n + (length x + 2)) bs, lens, inner_lens) in
    omega (arith, lens, inner_lens, reaches bs (length n) (length x + 2) (length e) (whole ∙ sym all) hashes (exponent_max (drop (length n + (length x + 2)) bs) (length e) last_room (subst IsExponent (sym last) we)))

number_max : (bs : List ℕ) (m : ℕ) → m ≤ length bs → IsNumber (take m bs) → m ≤ number_len (parts_of bs)
number_max bs m l w = elim w.4 [
  | inl s ↦ plain_max bs m l w.0 w.1 w.2 w.3 s
  | inr s ↦ based_max bs m l w.0 w.1 s.0 w.2 w.3 s.1 s.2
]

-- and the first number_len bytes are one
based_none : (bs : List ℕ) (t : Bool) → (get_or bs 0 0 == 35 && get_or (drop 1 bs) (numeral_len Hexadecimal (drop 1 bs)) 0 == 35) ≡ t → (based_len bs ≡ 0) ⊎ ((get_or bs 0 0 ≡ 35) × (get_or (drop 1 bs) (numeral_len Hexadecimal (drop 1 bs)) 0 ≡ 35) × (based_len bs ≡ numeral_len Hexadecimal (drop 1 bs)))
based_none bs true h = inr (eqb-true (get_or bs 0 0) 35 (both_left _ _ h), eqb-true (get_or (drop 1 bs) (numeral_len Hexadecimal (drop 1 bs)) 0) 35 (both_right (get_or bs 0 0 == 35) _ h), rw h refl)
based_none bs false h = inl (rw h refl)

cons_of : (xs : List ℕ) (v : ℕ) → 0 < v → get_or xs 0 0 ≡ v → xs ≡ v ∷ drop 1 xs
cons_of [] v l e = absurd (omega arith)
cons_of (x ∷ xs) v l e = ap (λ (z : ℕ). z ∷ xs) e

hex_of : (bs : List ℕ) (n : ℕ) → 0 < n → n ≡ numeral_len Hexadecimal bs → (t : Bool) → is_digit Hexadecimal (get_or bs 0 0) ≡ t → IsNumeral Hexadecimal (take n bs)
hex_of bs n l e true h = is_numeral Hexadecimal bs n (e ∙ numeral_is Hexadecimal bs h) h
hex_of bs n l e false h = absurd (omega (arith, e, no_numeral Hexadecimal bs h))

inside_of : (bs : List ℕ) (i v : ℕ) → 0 < v → get_or bs i 0 ≡ v → i < length bs
inside_of bs i v l e = elim (cases_lt i (length bs)) [ inl k ↦ k | inr g ↦ absurd (omega (arith, get_or_past bs i 0 g)) ]

number_of : (bs : List ℕ) (n h j : ℕ) → IsNumeral Decimal (take n bs) → h ≡ with_hashes (based_len (drop n bs)) → j ≡ exponent_part (drop (n + h) bs) → IsNumber (take (n + h + j) bs)
number_of bs n h j w e f =
    let ys : List ℕ = drop n bs in
    let x : ℕ = numeral_len Hexadecimal (drop 1 ys) in
    let last : List ℕ = take j (drop (n + h) bs) in
    let exponent : IsExponent last = subst (λ (k : ℕ). IsExponent (take k (drop (n + h) bs))) (sym f) (is_exponent (drop (n + h) bs)) in
    let whole : take (n + h + j) bs ≡ take (n + h) bs ++ last = take-add (n + h) j bs in
    let plain : h ≡ 0 → IsNumber (take (n + h + j) bs) = λ (z : h ≡ 0). (take n bs, last, w, exponent, inl (whole ∙ ap (λ (k : ℕ). take k bs ++ last) (let q : n + h ≡ n = omega arith in q))) in
    elim (based_none ys (get_or ys 0 0 == 35 && get_or (drop 1 ys) x 0 == 35) refl) [
      | inl z ↦ plain (e ∙ ap with_hashes z)
      | inr v ↦ elim (cases_eq x 0) [
        | inl nil ↦ plain (e ∙ ap with_hashes (v.2 ∙ nil))
        | inr ne ↦
            let some : 0 < x = omega arith in
            let zs : List ℕ = drop 1 ys in
            let size : h ≡ suc (x + 1) = e ∙ ap with_hashes v.2 ∙ some_hashes x some ∙ (let a : x + 2 ≡ suc (x + 1) = omega arith in a) in
            let digits : take (x + 1) zs ≡ take x zs ++ 35 ∷ [] = take_more zs x 0 (inside_of zs x 35 (omega arith) v.1) ∙ ap (λ (k : ℕ). take x zs ++ k ∷ []) v.1 in
            let middle : take h ys ≡ 35 ∷ (take x zs ++ 35 ∷ []) = ap (λ (k : ℕ). take k ys) size ∙ ap (λ (ks : List ℕ). take (suc (x + 1)) ks) (cons_of ys 35 (omega arith) v.0) ∙ ap (λ (ks : List ℕ). 35 ∷ ks) digits in
            let start : take (n + h) bs ≡ take n bs ++ 35 ∷ (take x zs ++ 35 ∷ []) = take-add n h bs ∙ ap (λ (ks : List ℕ). take n bs ++ ks) middle in
            let joined : take n bs ++ 35 ∷ (take x zs ++ 35 ∷ []) ++ last ≡ take n bs ++ 35 ∷ (take x zs ++ 35 ∷ last) =
            append_assoc (take n bs) (35 ∷ (take x zs ++ 35 ∷ [])) last ∙ ap (λ (ks : List ℕ). take n bs ++ 35 ∷ ks) (append_assoc (take x zs) (35 ∷ []) last) in
            (take n bs, last, w, exponent, inr (take x zs, hex_of zs x some refl (is_digit Hexadecimal (get_or zs 0 0)) refl, whole ∙ ap (λ (ks : List ℕ). ks ++ last) start ∙ joined))
      ]
    ]

-- it is a front
run_within_from : (d : Digits) (b : ℕ) (bs : List ℕ) → run_len d bs ≤ length bs → (t : Bool) → goes_on d b (get_or bs 0 0) ≡ t → run_len d (b ∷ bs) ≤ length (b ∷ bs)
run_within_from d b bs l true h = omega (arith, goes d b bs h, l)
run_within_from d b bs l false h = omega (arith, ends d b bs h)

run_within : (d : Digits) (bs : List ℕ) → run_len d bs ≤ length bs
unfolding run_len
run_within d [] = omega arith
run_within d (b ∷ bs) = run_within_from d b bs (run_within d bs) (goes_on d b (get_or bs 0 0)) refl

numeral_within_from : (d : Digits) (bs : List ℕ) (t : Bool) → is_digit d (get_or bs 0 0) ≡ t → numeral_len d bs ≤ length bs
numeral_within_from d bs true h = omega (arith, numeral_is d bs h, run_within d bs)
numeral_within_from d bs false h = omega (arith, no_numeral d bs h)

numeral_within : (d : Digits) (bs : List ℕ) → numeral_len d bs ≤ length bs
numeral_within d bs = numeral_within_from d bs (is_digit d (get_or bs 0 0)) refl

start_within : (s n : ℕ) → with_start s n ≤ s + n
start_within s zero = omega arith
start_within s (suc n) = omega (arith, some_start s (suc n) (omega arith))

hashes_within : (n : ℕ) → with_hashes n ≤ n + 2
hashes_within zero = omega arith
hashes_within (suc n) = omega (arith, some_hashes (suc n) (omega arith))

exponent_within_e : (b : ℕ) (rest : List ℕ) → is_e b ≡ true → exponent_part (b ∷ rest) ≤ length (b ∷ rest)
exponent_within_e b [] h = omega (arith, no_plus b [] h (λ e. absurd (omega arith)), start_within 1 (numeral_len Decimal []), numeral_within Decimal [])
exponent_within_e b (c ∷ cs) h = elim (cases_eq c 43) [
  | inl e ↦ omega (arith, ap (λ (z : ℕ). exponent_part (b ∷ z ∷ cs)) e, with_plus b cs h, start_within 2 (numeral_len Decimal cs), numeral_within Decimal cs)
  | inr n ↦ omega (arith, no_plus b (c ∷ cs) h n, start_within 1 (numeral_len Decimal (c ∷ cs)), numeral_within Decimal (c ∷ cs))
]

exponent_within_from : (b : ℕ) (rest : List ℕ) (t : Bool) → is_e b ≡ t → exponent_part (b ∷ rest) ≤ length (b ∷ rest)
exponent_within_from b rest true h = exponent_within_e b rest h
exponent_within_from b rest false h = omega (arith, no_e b rest h)

exponent_within : (bs : List ℕ) → exponent_part bs ≤ length bs
exponent_within [] = omega arith
exponent_within (b ∷ rest) = exponent_within_from b rest (is_e b) refl

based_within : (bs : List ℕ) → with_hashes (based_len bs) ≤ length bs
based_within bs =
    let x : ℕ = numeral_len Hexadecimal (drop 1 bs) in
    elim (based_none bs (get_or bs 0 0 == 35 && get_or (drop 1 bs) x 0 == 35) refl) [
      | inl z ↦ let none : with_hashes (based_len bs) ≡ 0 = ap with_hashes z in omega (arith, none)
      | inr w ↦
          let size : with_hashes (based_len bs) ≡ with_hashes x = ap with_hashes w.2 in
          omega (arith, size, hashes_within x, inside_of (drop 1 bs) x 35 (omega arith) w.1, length-drop 1 bs)
    ]

number_within : (bs : List ℕ) → number_len (parts_of bs) ≤ length bs
number_within bs =
    let n : ℕ = numeral_len Decimal bs in
    let h : ℕ = with_hashes (based_len (drop n bs)) in
    let first : n ≤ length bs = numeral_within Decimal bs in
    let second : h ≤ length (drop n bs) = based_within (drop n bs) in
    let third : exponent_part (drop (n + h) bs) ≤ length (drop (n + h) bs) = exponent_within (drop (n + h) bs) in
    omega (arith, len_is bs, first, second, third, length-drop n bs, length-drop (n + h) bs)

pub number_front : (bs : List ℕ) → is_ascii_digit (get_or bs 0 0) ≡ true → IsLongest IsNumber bs (number_len (parts_of bs))
number_front bs d =
    let n : ℕ = numeral_len Decimal bs in
    let h : ℕ = with_hashes (based_len (drop n bs)) in
    let w : IsNumeral Decimal (take n bs) = is_numeral Decimal bs n (numeral_is Decimal bs d) d in
    record {
      within = number_within bs;
      piece = subst (λ (k : ℕ). IsNumber (take k bs)) (sym (len_is bs)) (number_of bs n h (exponent_part (drop (n + h) bs)) w refl refl);
      no_more = λ m k r s. absurd (omega (arith, number_max bs m r s, k));
    }
