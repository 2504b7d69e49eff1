-- An operand that is read is the one that was written, and what was written is read again.
use Rattle.std.proofs.Common.{◌≡◌, ℕ, ◌+◌, ◌<◌, ◌≤◌, Bool, true, false, cond, ltb, List, ◌++◌, length, get_or, take, drop, Option, Some, None, refl, sym, ap, subst, ◌∙◌, append_assoc, arith, inl, inr}
use Rattle.std.specs.Prelude.{ℤ, FitsSigned, ◌⊎◌}
use Rattle.std.specs.Int.{Width, w32, w64, byte_len, from_be_bytes, to_be_bytes, cast_signed, cast_unsigned}
use Rattle.std.proofs.lemmas.Int.{of_z-to_z, to_z-of_z}
use Rattle.std.proofs.lemmas.Bool.{cases_lt, ltb-false, le-ltb}
use Rattle.std.proofs.lemmas.List.{take_at, drop_at, take-append-drop, length-append, length-take, get_or-drop, get_or-take, get_or_past}
use Rattle.std.proofs.lemmas.Nat.{be_bytes_4, be_bytes_8, from_be_bytes-to_be_bytes_4, from_be_bytes-to_be_bytes_8}
use Rattle.std.proofs.Math.Facts.{Fits-of_z}
use Rattle.al_instr.specs.Codes.{word_bytes, jump_bytes, long_bytes}
use Rattle.al_instr.specs.Reading.{◌>>=◌, or_else, word_at, jump_at, double_at, long_at, text_at}

abbrev pub IsBytes : List ℕ → Type 0
IsBytes bytes = (i : ℕ) → get_or bytes i 0 < 256

pub IsBytes-drop : (n : ℕ) (bytes : List ℕ) → IsBytes bytes → IsBytes (drop n bytes)
IsBytes-drop n bytes h i = rw get_or-drop (h (n + i))

pub IsBytes-take : (n : ℕ) (bytes : List ℕ) → IsBytes bytes → IsBytes (take n bytes)
IsBytes-take n bytes h i =
    elim (cases_lt i n) [
      | inl lt ↦ rw (get_or-take n bytes i 0 lt) (h i)
      | inr le ↦ rw (get_or_past (take n bytes) i 0 (omega (arith, length-take n bytes))) (omega arith)
    ]

-- the value of a step that did not fail
pub bind_some : {A B : Type 0} (r : Option A) (f : A → Option B) (y : B) → (r >>= f) ≡ Some y → (x : A) × (r ≡ Some x) × (f x ≡ Some y)
bind_some (Some x) f y e = (x, refl, e)
bind_some None f y e = absurd cc

pub or_else_some : {A B : Type 0} (o : Option A) (f : A → Option B) (r : Option B) (y : B) → or_else o f r ≡ Some y → ((x : A) × (o ≡ Some x) × (f x ≡ Some y)) ⊎ ((o ≡ None) × (r ≡ Some y))
or_else_some (Some x) f r y e = inl (x, refl, e)
or_else_some None f r y e = inr (refl, e)

-- which way a test went
pub chosen : {A : Type 0} (b : Bool) (x y z : A) → cond b x y ≡ z → ((b ≡ true) × (x ≡ z)) ⊎ ((b ≡ false) × (y ≡ z))
chosen true x y z e = inl (refl, e)
chosen false x y z e = inr (refl, e)

-- a test that did not fail
pub guard_some : {A : Type 0} (b : Bool) (x y : A) → cond b None (Some x) ≡ Some y → (b ≡ false) × (x ≡ y)
guard_some true x y e = absurd cc
guard_some false x y e = (refl, cc)

-- what a reader took from the front
pub record Takes (bytes text rest : List ℕ) : Type 0 where
  pub parts : bytes ≡ text ++ rest
  pub rest_fits : IsBytes rest

pub Takes-then : (a x b y c : List ℕ) → Takes a x b → Takes b y c → Takes a (x ++ y) c
Takes-then a x b y c p q = record { parts = p.parts ∙ ap (λ (t : List ℕ). x ++ t) q.parts ∙ sym (append_assoc x y c); rest_fits = q.rest_fits }

-- ---- numbers

pub record IsWide (w : Width) (limit : ℕ) : Type 0 where
  pub len : (n : ℕ) → length (to_be_bytes w n) ≡ byte_len w
  pub back : (bytes : List ℕ) → length bytes ≡ byte_len w → IsBytes bytes → to_be_bytes w (from_be_bytes w bytes) ≡ bytes
  pub again : (n : ℕ) → n < limit → from_be_bytes w (to_be_bytes w n) ≡ n
  pub below : (bytes : List ℕ) → IsBytes bytes → from_be_bytes w bytes < limit

pub wide32 : IsWide w32 0x1_0000_0000
wide32 = record {
  len = λ n. refl;
  back = λ bytes len fits. be_bytes_4 bytes _ len fits refl;
  again = λ n lt. from_be_bytes-to_be_bytes_4 n lt;
  below = λ bytes fits. omega (arith, fits 0, fits 1, fits 2, fits 3);
}

pub wide64 : IsWide w64 0x1_0000_0000_0000_0000
wide64 = record {
  len = λ n. refl;
  back = λ bytes len fits. be_bytes_8 bytes _ len fits refl;
  again = λ n lt. from_be_bytes-to_be_bytes_8 n lt;
  below = λ bytes fits. omega (arith, fits 0, fits 1, fits 2, fits 3, fits 4, fits 5, fits 6, fits 7);
}

abbrev number_at : Width → List ℕ → Option (ℕ × List ℕ)
number_at w bytes = cond (ltb (length bytes) (byte_len w)) None (Some (from_be_bytes w (take (byte_len w) bytes), drop (byte_len w) bytes))

number_takes : (w : Width) (limit : ℕ) (wide : IsWide w limit) (bytes : List ℕ) (n : ℕ) (rest : List ℕ) → IsBytes bytes → number_at w bytes ≡ Some (n, rest) → Takes bytes (to_be_bytes w n) rest × (n < limit)
number_takes w limit wide bytes n rest fits e =
    let g = guard_some (ltb (length bytes) (byte_len w)) (from_be_bytes w (take (byte_len w) bytes), drop (byte_len w) bytes) (n, rest) e in
    let long : byte_len w ≤ length bytes = ltb-false _ _ g.0 in
    let n-is : from_be_bytes w (take (byte_len w) bytes) ≡ n = ap (λ (p : ℕ × List ℕ). p.0) g.1 in
    let rest-is : drop (byte_len w) bytes ≡ rest = ap (λ (p : ℕ × List ℕ). p.1) g.1 in
    let front : to_be_bytes w n ≡ take (byte_len w) bytes = rw (← n-is) (wide.back (take (byte_len w) bytes) (omega (arith, length-take (byte_len w) bytes)) (IsBytes-take (byte_len w) bytes fits)) in
    (record { parts = rw (front, ← rest-is) (sym (take-append-drop (byte_len w) bytes)); rest_fits = rw (← rest-is) (IsBytes-drop (byte_len w) bytes fits) }, rw (← n-is) (wide.below (take (byte_len w) bytes) (IsBytes-take (byte_len w) bytes fits)))

number_again : (w : Width) (limit : ℕ) (wide : IsWide w limit) (n : ℕ) (rest : List ℕ) → n < limit → number_at w (to_be_bytes w n ++ rest) ≡ Some (n, rest)
number_again w limit wide n rest lt =
    let len = wide.len n in
    let long : ltb (length (to_be_bytes w n ++ rest)) (byte_len w) ≡ false = le-ltb _ _ (omega (arith, length-append (to_be_bytes w n) rest)) in
    rw (long, take_at (to_be_bytes w n) rest (byte_len w) len, drop_at (to_be_bytes w n) rest (byte_len w) len, wide.again n lt) refl

-- ---- operands

pub word_takes : (bytes : List ℕ) (n : ℕ) (rest : List ℕ) → IsBytes bytes → word_at bytes ≡ Some (n, rest) → Takes bytes (word_bytes n) rest × (n < 0x1_0000_0000)
unfolding word_at word_bytes
word_takes bytes n rest fits e = number_takes w32 0x1_0000_0000 wide32 bytes n rest fits e

pub word_again : (n : ℕ) (rest : List ℕ) → n < 0x1_0000_0000 → word_at (word_bytes n ++ rest) ≡ Some (n, rest)
unfolding word_at word_bytes
word_again n rest lt = number_again w32 0x1_0000_0000 wide32 n rest lt

pub jump_takes : (bytes : List ℕ) (z : ℤ) (rest : List ℕ) → IsBytes bytes → jump_at bytes ≡ Some (z, rest) → Takes bytes (jump_bytes z) rest
unfolding jump_at jump_bytes word_bytes
jump_takes bytes z rest fits e =
    let b = bind_some (word_at bytes) (λ n. Some (cast_signed w32 n.0, n.1)) (z, rest) e in
    let t = word_takes bytes b.0.0 b.0.1 fits b.1 in
    let back : cast_unsigned w32 (cast_signed w32 b.0.0) ≡ b.0.0 = of_z-to_z w32 b.0.0 t.1 in
    let start : Takes bytes (to_be_bytes w32 (cast_unsigned w32 (cast_signed w32 b.0.0))) b.0.1 = rw back t.0 in
    let pair : (cast_signed w32 b.0.0, b.0.1) ≡ (z, rest) = cc in
    subst (λ (p : ℤ × List ℕ). Takes bytes (to_be_bytes w32 (cast_unsigned w32 p.0)) p.1) pair start

pub jump_again : (z : ℤ) (rest : List ℕ) → FitsSigned w32 z → jump_at (jump_bytes z ++ rest) ≡ Some (z, rest)
unfolding jump_at jump_bytes
jump_again z rest fits =
    let lt : cast_unsigned w32 z < 0x1_0000_0000 = (Fits-of_z {w = w32} {z = z} fits).fits in
    let e : word_at (to_be_bytes w32 (cast_unsigned w32 z) ++ rest) ≡ Some (cast_unsigned w32 z, rest) = unfold word_bytes in word_again (cast_unsigned w32 z) rest lt in
    ap (λ (r : Option (ℕ × List ℕ)). r >>= λ n. Some (cast_signed w32 n.0, n.1)) e
    ∙ ap (λ (x : ℤ). Some (x, rest)) (to_z-of_z w32 z fits)

double_takes : (bytes : List ℕ) (n : ℕ) (rest : List ℕ) → IsBytes bytes → double_at bytes ≡ Some (n, rest) → Takes bytes (to_be_bytes w64 n) rest × (n < 0x1_0000_0000_0000_0000)
unfolding double_at
double_takes bytes n rest fits e = number_takes w64 0x1_0000_0000_0000_0000 wide64 bytes n rest fits e

double_again : (n : ℕ) (rest : List ℕ) → n < 0x1_0000_0000_0000_0000 → double_at (to_be_bytes w64 n ++ rest) ≡ Some (n, rest)
unfolding double_at
double_again n rest lt = number_again w64 0x1_0000_0000_0000_0000 wide64 n rest lt

pub long_takes : (bytes : List ℕ) (z : ℤ) (rest : List ℕ) → IsBytes bytes → long_at bytes ≡ Some (z, rest) → Takes bytes (long_bytes z) rest
unfolding long_at long_bytes
long_takes bytes z rest fits e =
    let b = bind_some (double_at bytes) (λ n. Some (cast_signed w64 n.0, n.1)) (z, rest) e in
    let t = double_takes bytes b.0.0 b.0.1 fits b.1 in
    let back : cast_unsigned w64 (cast_signed w64 b.0.0) ≡ b.0.0 = of_z-to_z w64 b.0.0 t.1 in
    let start : Takes bytes (to_be_bytes w64 (cast_unsigned w64 (cast_signed w64 b.0.0))) b.0.1 = rw back t.0 in
    let pair : (cast_signed w64 b.0.0, b.0.1) ≡ (z, rest) = cc in
    subst (λ (p : ℤ × List ℕ). Takes bytes (to_be_bytes w64 (cast_unsigned w64 p.0)) p.1) pair start

pub long_again : (z : ℤ) (rest : List ℕ) → FitsSigned w64 z → long_at (long_bytes z ++ rest) ≡ Some (z, rest)
unfolding long_at long_bytes
long_again z rest fits =
    let lt : cast_unsigned w64 z < 0x1_0000_0000_0000_0000 = (Fits-of_z {w = w64} {z = z} fits).fits in
    let e : double_at (to_be_bytes w64 (cast_unsigned w64 z) ++ rest) ≡ Some (cast_unsigned w64 z, rest) = double_again (cast_unsigned w64 z) rest lt in
    ap (λ (r : Option (ℕ × List ℕ)). r >>= λ n. Some (cast_signed w64 n.0, n.1)) e
    ∙ ap (λ (x : ℤ). Some (x, rest)) (to_z-of_z w64 z fits)

pub text_takes : (bytes text rest : List ℕ) → IsBytes bytes → text_at bytes ≡ Some (text, rest) → Takes bytes (word_bytes (length text) ++ text) rest
unfolding text_at
text_takes bytes text rest fits e =
    let b = bind_some (word_at bytes) (λ n. cond (ltb (length n.1) n.0) None (Some (take n.0 n.1, drop n.0 n.1))) (text, rest) e in
    let n = b.0 in
    let t = word_takes bytes n.0 n.1 fits b.1 in
    let g = guard_some (ltb (length n.1) n.0) (take n.0 n.1, drop n.0 n.1) (text, rest) b.2 in
    let long : n.0 ≤ length n.1 = ltb-false _ _ g.0 in
    let len : length (take n.0 n.1) ≡ n.0 = omega (arith, length-take n.0 n.1) in
    let second : Takes n.1 (take n.0 n.1) (drop n.0 n.1) = record { parts = sym (take-append-drop n.0 n.1); rest_fits = IsBytes-drop n.0 n.1 t.0.rest_fits } in
    let both = Takes-then bytes (word_bytes n.0) n.1 (take n.0 n.1) (drop n.0 n.1) t.0 second in
    let whole : Takes bytes (word_bytes (length (take n.0 n.1)) ++ take n.0 n.1) (drop n.0 n.1) = subst (λ (k : ℕ). Takes bytes (word_bytes k ++ take n.0 n.1) (drop n.0 n.1)) (sym len) both in
    subst (λ (p : List ℕ × List ℕ). Takes bytes (word_bytes (length p.0) ++ p.0) p.1) g.1 whole

pub text_again : (text rest : List ℕ) → length text < 0x1_0000_0000 → text_at ((word_bytes (length text) ++ text) ++ rest) ≡ Some (text, rest)
unfolding text_at
text_again text rest lt =
    let long : ltb (length (text ++ rest)) (length text) ≡ false = le-ltb _ _ (omega (arith, length-append text rest)) in
    rw (append_assoc (word_bytes (length text)) text rest, word_again (length text) (text ++ rest) lt, long, take_at text rest (length text) refl, drop_at text rest (length text) refl) refl

-- a reader of operands that are written so
pub record IsReader {A : Type 0} (at : List ℕ → Option (A × List ℕ)) (written : A → List ℕ) : Type 0 where
  pub takes : (bytes : List ℕ) (x : A) (rest : List ℕ) → IsBytes bytes → at bytes ≡ Some (x, rest) → Takes bytes (written x) rest

pub words_read : IsReader word_at word_bytes
words_read = record { takes = λ bytes x rest fits e. (word_takes bytes x rest fits e).0 }

pub jumps_read : IsReader jump_at jump_bytes
jumps_read = record { takes = jump_takes }

pub longs_read : IsReader long_at long_bytes
longs_read = record { takes = long_takes }

pub texts_read : IsReader text_at (λ text. word_bytes (length text) ++ text)
texts_read = record { takes = text_takes }
