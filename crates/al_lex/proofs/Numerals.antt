-- How long a numeral is, and its value, as loops find them.
use Rattle.std.proofs.Common.{ℕ, zero, suc, ◌≡◌, ◌==◌, ◌+◌, ◌*◌, ◌^◌, ◌<◌, ◌≤◌, ◌⊎◌, inl, inr, min, true, false, List, [], ◌∷◌, length, drop, get_or, refl, sym, ap, ◌∙◌, arith, add-one, add-zero, drop-cons, get_or-drop, drop_of_length-le, lit<, subst, ◌&&◌}
use Rattle.std.specs.Prelude.{if◌then◌else◌}
use Rattle.std.specs.Char.{is_ascii_digit}
use Rattle.std.proofs.lemmas.Bool.{or_left, cases_lt}
use Rattle.std.proofs.lemmas.Grind.{pow_more}
use Rattle.std.proofs.Math.Nat.{le-mul_of_pos_right, one-le-pow, pow-le-pow_left, pow-le-pow_right}
use Rattle.al_lex.specs.declared.numbers.Digits.{Digits}
use Rattle.al_lex.specs.declared.numbers.Digits.TheVariants.{Decimal, Hexadecimal}
use Rattle.al_lex.specs.declared.numbers.Parts.{Parts}
use Rattle.al_lex.specs.Numbers.{is_digit, goes_on, run_len, numeral_len, numeral_value, with_byte, digit_value, number_len, parts_of}

pub goes : (d : Digits) (b : ℕ) (bs : List ℕ) → goes_on d b (get_or bs 0 0) ≡ true → run_len d (b ∷ bs) ≡ 1 + run_len d bs
unfolding run_len
goes d b bs h = rw h refl

pub ends : (d : Digits) (b : ℕ) (bs : List ℕ) → goes_on d b (get_or bs 0 0) ≡ false → run_len d (b ∷ bs) ≡ 0
unfolding run_len
ends d b bs h = rw h refl

module _ (d : Digits) (bs : List ℕ) (i : ℕ) (inside : i < length bs) where
  here : drop i bs ≡ get_or bs i 0 ∷ drop (i + 1) bs
  here = rw add-one (drop-cons bs i 0 inside)

  next : get_or (drop (i + 1) bs) 0 0 ≡ get_or bs (i + 1) 0
  next = get_or-drop (i + 1) bs 0 0 ∙ ap (λ (k : ℕ). get_or bs k 0) (add-zero (i + 1))

  pub run_step : goes_on d (get_or bs i 0) (get_or bs (i + 1) 0) ≡ true → i + run_len d (drop i bs) ≡ i + 1 + run_len d (drop (i + 1) bs)
  run_step h =
      let e : run_len d (drop i bs) ≡ 1 + run_len d (drop (i + 1) bs) = ap (run_len d) here ∙ goes d (get_or bs i 0) (drop (i + 1) bs) (ap (goes_on d (get_or bs i 0)) next ∙ h) in
      omega arith

  pub run_stop : goes_on d (get_or bs i 0) (get_or bs (i + 1) 0) ≡ false → run_len d (drop i bs) ≡ 0
  run_stop h = ap (run_len d) here ∙ ends d (get_or bs i 0) (drop (i + 1) bs) (ap (goes_on d (get_or bs i 0)) next ∙ h)

pub run_over : (d : Digits) (bs : List ℕ) (i : ℕ) → length bs ≤ i → run_len d (drop i bs) ≡ 0
unfolding run_len
run_over d bs i h = ap (run_len d) (drop_of_length-le bs h)

pub numeral_is : (d : Digits) (bs : List ℕ) → is_digit d (get_or bs 0 0) ≡ true → numeral_len d bs ≡ run_len d bs
numeral_is d bs h = rw h refl

pub some_numeral : (d : Digits) (bs : List ℕ) → is_digit d (get_or bs 0 0) ≡ true → 0 < numeral_len d bs
some_numeral Decimal [] h = absurd (cc)
some_numeral Hexadecimal [] h = absurd (cc)
some_numeral d (b ∷ bs) h =
    let e : run_len d (b ∷ bs) ≡ 1 + run_len d bs = goes d b bs (or_left (is_digit d b) (b == 95 && is_digit d (get_or bs 0 0)) h) in
    rw h (omega arith)

longer : (p : Parts) → 0 < p.numeral → 0 < number_len p
longer p h = omega arith

pub some_number : (bs : List ℕ) → is_ascii_digit (get_or bs 0 0) ≡ true → 0 < number_len (parts_of bs)
unfolding parts_of
some_number bs h = longer (parts_of bs) (some_numeral Decimal bs h)

-- what is at the bound or above is so times a number
pub bound : (n a b m : ℕ) → m ≤ a → m ≤ b → min (n * a) m ≡ min (n * b) m
bound zero a b m h k = omega arith
bound (suc n) a b m h k = omega arith

times : (m base a b : ℕ) → 0 < base → min a m ≡ min b m → min (a * base) m ≡ min (b * base) m
times m base a b p e = elim (cases_lt a m) [
  | inl l ↦ ap (λ (k : ℕ). min (k * base) m) (let s : a ≡ b = omega arith in s)
  | inr l ↦ omega (arith, le-mul_of_pos_right a p, le-mul_of_pos_right b p)
]

same_next : (m base a b c : ℕ) → 0 < base → min a m ≡ min b m → min (with_byte base a c) m ≡ min (with_byte base b c) m
same_next m base a b c p e =
    let t : min (a * base) m ≡ min (b * base) m = times m base a b p e in
    let more : min (a * base + digit_value c) m ≡ min (b * base + digit_value c) m = omega arith in
    elim (c == 95) as (λ t. min (if t then a else a * base + digit_value c) m ≡ min (if t then b else b * base + digit_value c) m) [ true ↦ e | false ↦ more ]

value_up_to : (m base a b : ℕ) (bs : List ℕ) → 0 < base → min a m ≡ min b m → min (numeral_value base a bs) m ≡ min (numeral_value base b bs) m
unfolding numeral_value
value_up_to m base a b [] p e = e
value_up_to m base a b (c ∷ cs) p e = value_up_to m base (with_byte base a c) (with_byte base b c) cs p (same_next m base a b c p e)

first : (base n b : ℕ) (bs : List ℕ) → numeral_value base n (b ∷ bs) ≡ numeral_value base (with_byte base n b) bs
unfolding numeral_value
first base n b bs = refl

-- one byte more of a numeral, where the value so far is exact up to m
pub value_step : (m base n n' : ℕ) (bs : List ℕ) (i : ℕ) → i < length bs → 0 < base → n' ≡ min (with_byte base n (get_or bs i 0)) m
    → min (numeral_value base n' (drop (i + 1) bs)) m ≡ min (numeral_value base n (drop i bs)) m
value_step m base n n' bs i l p e =
    let here : drop i bs ≡ get_or bs i 0 ∷ drop (i + 1) bs = rw add-one (drop-cons bs i 0 l) in
    let next : ℕ = with_byte base n (get_or bs i 0) in
    let same : min n' m ≡ min next m = omega (arith, e) in
    value_up_to m base n' next (drop (i + 1) bs) p same
    ∙ sym (ap (λ (xs : List ℕ). min (numeral_value base n xs) m) here ∙ ap (λ (k : ℕ). min k m) (first base n (get_or bs i 0) (drop (i + 1) bs)))

pub value_over : (base n : ℕ) (bs : List ℕ) (i : ℕ) → length bs ≤ i → numeral_value base n (drop i bs) ≡ n
unfolding numeral_value
value_over base n bs i h = ap (λ (xs : List ℕ). numeral_value base n xs) (drop_of_length-le bs h)

-- a power that is the same, or at the bound and above
pub capped : (m p q M : ℕ) → (p ≡ q) ⊎ ((M ≤ p) × (M ≤ q)) → min (m * min q M) M ≡ min (m * p) M
capped m p q M (inl e) = elim (cases_lt M p) [
  | inl l ↦ bound m (min q M) p M (omega (arith, e)) (omega arith)
  | inr l ↦ ap (λ (x : ℕ). min (m * x) M) (let f : min q M ≡ p = omega (arith, e) in f)
]
capped m p q M (inr w) = bound m (min q M) p M (omega (arith, w.0, w.1)) w.0

pub scaled_by : (m base e : ℕ) → 2 ≤ base → min (m * min (base ^ min e 64) 18446744073709551615) 18446744073709551615 ≡ min (m * base ^ e) 18446744073709551615
scaled_by m base e h = capped m (base ^ e) (base ^ min e 64) 18446744073709551615 (elim (cases_lt 64 e) [
  | inl l ↦
      let low : 2 ^ 64 ≤ base ^ 64 = pow-le-pow_left h 64 in
      let high : base ^ 64 ≤ base ^ e = pow-le-pow_right (omega arith) (omega arith) in
      let at : base ^ 64 ≡ base ^ min e 64 = ap (λ (k : ℕ). base ^ k) (let s : 64 ≡ min e 64 = omega arith in s) in
      inr (omega (arith, low, high), omega (arith, low, at))
  | inr l ↦ inl (ap (λ (k : ℕ). base ^ k) (let s : e ≡ min e 64 = omega arith in s))
])

below_power : (m : ℕ) → m < 2 ^ m
below_power zero = lit< tt
below_power (suc m) =
    let e : 2 ^ (m + 1) ≡ 2 ^ m * 2 = pow_more 2 m in
    let s : m + 1 ≡ suc m = omega arith in
    subst (λ (k : ℕ). k < 2 ^ k) s (omega (arith, e, below_power m))

-- value and exponent may be known up to m alone
pub scaled_up_to : (m v base e : ℕ) → 2 ≤ base → min (min v m * base ^ min e m) m ≡ min (v * base ^ e) m
scaled_up_to m v base e h =
    let some : 0 < base ^ min e m = one-le-pow (min e m) base (omega arith) in
    let same : min (min v m) m ≡ min v m = omega arith in
    times m (base ^ min e m) (min v m) v some same
    ∙ elim (cases_lt m e) [
      | inl l ↦
          let low : m < 2 ^ m = below_power m in
          let mid : 2 ^ m ≤ base ^ m = pow-le-pow_left h m in
          let high : base ^ m ≤ base ^ e = pow-le-pow_right (omega arith) (omega arith) in
          let at : base ^ m ≡ base ^ min e m = ap (λ (k : ℕ). base ^ k) (let s : m ≡ min e m = omega arith in s) in
          bound v (base ^ min e m) (base ^ e) m (omega (arith, low, mid, at)) (omega (arith, low, mid, high))
      | inr l ↦ ap (λ (k : ℕ). min (v * base ^ k) m) (let s : min e m ≡ e = omega arith in s)
    ]
