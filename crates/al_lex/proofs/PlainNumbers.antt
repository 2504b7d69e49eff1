-- Numbers of a few digits alone.
use Rattle.std.proofs.Common.{ℕ, suc, ◌≡◌, ◌==◌, ◌+◌, ◌-◌, ◌*◌, ◌^◌, ◌<◌, ◌≤◌, Bool, true, false, not, cond, List, [], ◌∷◌, length, take, drop, Ok, refl, sym, ap, ◌∙◌, subst, get_or, arith, add-zero, ne_eqb}
use Rattle.std.specs.Prelude.{nat_le}
use Rattle.std.specs.Char.{is_ascii_digit}
use Rattle.std.specs.List.{list_all, prefix_len}
use Rattle.std.proofs.lemmas.Bool.{and_from, or_right, leb-true, lt-ltb}
use Rattle.std.proofs.lemmas.Grind.{pow_more}
use Rattle.std.proofs.lemmas.List.Folds.{length-prefix_len}
use Rattle.std.proofs.Math.Nat.{pow-le-pow_right}
use Rattle.al_base.specs.Identifiers.{is_word_byte}
use Rattle.al_lex.specs.declared.numbers.Digits.TheVariants.{Decimal}
use Rattle.al_lex.specs.declared.numbers.Parts.{Parts}
use Rattle.al_lex.specs.Numbers.{based_len, digit_value, exponent_len, exponent_start, is_below, is_well_formed, number_at, number_len, numeral_len, numeral_value, parts_of, run_len, runs_on, value_of, with_byte, with_hashes}
use Rattle.al_lex.proofs.Joined.{both_left, both_right, none_left, none_right}
use Rattle.al_lex.proofs.LongestNumbers.{byte_at, from_digit}
use Rattle.al_lex.proofs.Numerals.{ends, numeral_is}

abbrev count : List ℕ → ℕ
count bs = prefix_len is_ascii_digit bs

front_digits : (bs : List ℕ) → list_all is_ascii_digit (take (count bs) bs) ≡ true
front_digits [] = refl
front_digits (b ∷ bs) = by (is_ascii_digit b) refl (front_digits bs)
  where
    by : (t : Bool) → is_ascii_digit b ≡ t → list_all is_ascii_digit (take (count bs) bs) ≡ true → list_all is_ascii_digit (take (cond t (1 + count bs) 0) (b ∷ bs)) ≡ true
    by true h rest = let on : suc (count bs) ≡ 1 + count bs = omega arith in subst (λ (k : ℕ). list_all is_ascii_digit (take k (b ∷ bs)) ≡ true) on (and_from (is_ascii_digit b) _ h rest)
    by false h rest = refl

-- they are the run, where no underscore follows
all_of_run : (bs : List ℕ) → (get_or bs (count bs) 0 ≡ 95 → ⊥) → run_len Decimal bs ≡ count bs
unfolding run_len
all_of_run [] n = refl
all_of_run (b ∷ bs) n = by (is_ascii_digit b) refl n (all_of_run bs)
  where
    by : (t : Bool) → is_ascii_digit b ≡ t → (get_or (b ∷ bs) (cond t (1 + count bs) 0) 0 ≡ 95 → ⊥) → ((get_or bs (count bs) 0 ≡ 95 → ⊥) → run_len Decimal bs ≡ count bs) → run_len Decimal (b ∷ bs) ≡ cond t (1 + count bs) 0
    by true h f more =
        let on : 1 + count bs ≡ suc (count bs) = omega arith in
        from_digit Decimal b bs h ∙ ap (λ (k : ℕ). 1 + k) (more (λ e. f (ap (λ (k : ℕ). get_or (b ∷ bs) k 0) on ∙ e)))
    by false h f more = ends Decimal b bs (rw (h, ne_eqb b 95 f) refl)

all_of_numeral : (bs : List ℕ) → (get_or bs (count bs) 0 ≡ 95 → ⊥) → numeral_len Decimal bs ≡ count bs
all_of_numeral [] f = refl
all_of_numeral (b ∷ bs) f = by (is_ascii_digit b) refl (all_of_run (b ∷ bs) f)
  where
    by : (t : Bool) → is_ascii_digit b ≡ t → run_len Decimal (b ∷ bs) ≡ count (b ∷ bs) → numeral_len Decimal (b ∷ bs) ≡ count (b ∷ bs)
    by true h e = numeral_is Decimal (b ∷ bs) h ∙ e
    by false h e = rw h refl

-- the value of digits
digit_small : (b : ℕ) → is_ascii_digit b ≡ true → digit_value b < 10
digit_small b h =
    let v : digit_value b ≡ b - 48 = rw h refl in
    let high : b ≤ 57 = leb-true b 57 (both_right (nat_le 48 b) _ h) in
    omega (arith, v, high)

digit_no_space : (b : ℕ) → is_ascii_digit b ≡ true → b ≡ 95 → ⊥
digit_no_space b h e = let k = ap is_ascii_digit (sym e) ∙ h in absurd (cc)

all_below : (ds : List ℕ) → list_all is_ascii_digit ds ≡ true → is_below 10 ds ≡ true
all_below [] h = refl
all_below (b ∷ ds) h = and_from _ _ (or_right (b == 95) _ (lt-ltb (digit_value b) 10 (digit_small b (both_left _ _ h)))) (all_below ds (both_right (is_ascii_digit b) _ h))

value_small : (ds : List ℕ) (j v : ℕ) → list_all is_ascii_digit ds ≡ true → v < 10 ^ j → numeral_value 10 v ds < 10 ^ (j + length ds)
unfolding numeral_value
value_small [] j v h l = subst (λ (k : ℕ). v < 10 ^ k) (sym (add-zero j)) l
value_small (b ∷ ds) j v h l =
    let d : is_ascii_digit b ≡ true = both_left _ _ h in
    let next : with_byte 10 v b ≡ v * 10 + digit_value b = rw (ne_eqb b 95 (digit_no_space b d)) refl in
    let fits : with_byte 10 v b < 10 ^ (j + 1) = omega (arith, next, pow_more 10 j, l, digit_small b d) in
    let len : j + 1 + length ds ≡ j + length (b ∷ ds) = omega arith in
    subst (λ (k : ℕ). numeral_value 10 (with_byte 10 v b) ds < 10 ^ k) len (value_small ds (j + 1) (with_byte 10 v b) (both_right (is_ascii_digit b) _ h) fits)

pub plain_small : (bs : List ℕ) → count bs ≤ 18 → numeral_value 10 0 (take (count bs) bs) < 9223372036854775808
plain_small bs l =
    let small : numeral_value 10 0 (take (count bs) bs) < 10 ^ (0 + length (take (count bs) bs)) = value_small (take (count bs) bs) 0 0 (front_digits bs) (omega arith) in
    let short : 0 + length (take (count bs) bs) ≤ 18 = omega (arith, l, length-prefix_len is_ascii_digit bs) in
    let most : 10 ^ (0 + length (take (count bs) bs)) ≤ 10 ^ 18 = pow-le-pow_right {n = 10} (omega arith) short in
    omega (arith, small, most)

-- the parts
abbrev made : List ℕ → ℕ → ℕ → ℕ → Parts
made bs n x k = record { numeral = n; based = x; start = exponent_start (drop k bs); exponent = exponent_len (drop k bs) }

abbrev alone : ℕ → ℕ → Parts
alone n s = record { numeral = n; based = 0; start = s; exponent = 0 }

other : (v b : ℕ) → is_word_byte v ≡ true → is_word_byte b ≡ false → b ≡ v → ⊥
other v b h f e = let k = ap is_word_byte (sym e) ∙ f in absurd (cc)

module _ (bs : List ℕ) (f : runs_on (drop (count bs) bs) ≡ false) where
  no_word : is_word_byte (get_or (drop (count bs) bs) 0 0) ≡ false
  no_word = none_left _ _ f

  no_hash : (get_or (drop (count bs) bs) 0 0 == 35) ≡ false
  no_hash = none_left _ _ (none_right (is_word_byte (get_or (drop (count bs) bs) 0 0)) _ f)

  numeral : numeral_len Decimal bs ≡ count bs
  numeral = all_of_numeral bs (λ e. other 95 _ refl no_word (byte_at (count bs) bs ∙ e))

  based : based_len (drop (count bs) bs) ≡ 0
  based = rw no_hash refl

  exponent : exponent_len (drop (count bs) bs) ≡ 0
  exponent = rw (ne_eqb (get_or (drop (count bs) bs) 0 0) 69 (other 69 _ refl no_word), ne_eqb (get_or (drop (count bs) bs) 0 0) 101 (other 101 _ refl no_word)) refl

  parts : parts_of bs ≡ alone (count bs) (exponent_start (drop (count bs) bs))
  unfolding parts_of
  parts =
      ap (λ (k : ℕ). made bs k (based_len (drop k bs)) (k + with_hashes (based_len (drop k bs)))) numeral
      ∙ ap (λ (x : ℕ). made bs (count bs) x (count bs + with_hashes x)) based
      ∙ ap (λ (k : ℕ). made bs (count bs) 0 k) (add-zero (count bs))
      ∙ ap (λ (e : ℕ). record { numeral = count bs; based = 0; start = exponent_start (drop (count bs) bs); exponent = e }) exponent

  well_formed : (s : ℕ) → is_well_formed (alone (count bs) s) bs ≡ true
  well_formed s =
      let len : number_len (alone (count bs) s) ≡ count bs = omega arith in
      let over : not (runs_on (drop (number_len (alone (count bs) s)) bs)) ≡ true = ap (λ (k : ℕ). not (runs_on (drop k bs))) len ∙ ap not f in
      and_from _ _ (all_below (take (count bs) bs) (front_digits bs)) over

  value : (s : ℕ) → value_of (alone (count bs) s) bs ≡ numeral_value 10 0 (take (count bs) bs)
  unfolding value_of numeral_value
  value s = omega arith

  at : (s : ℕ) → count bs ≤ 18 → number_at (alone (count bs) s) bs ≡ Ok (numeral_value 10 0 (take (count bs) bs))
  unfolding number_at
  at s l = rw (well_formed s, value s, lt-ltb _ _ (plain_small bs l)) refl

pub plain_len : (bs : List ℕ) → runs_on (drop (count bs) bs) ≡ false → number_len (parts_of bs) ≡ count bs
plain_len bs f = ap number_len (parts bs f) ∙ omega arith

pub plain_value : (bs : List ℕ) → runs_on (drop (count bs) bs) ≡ false → count bs ≤ 18 → number_at (parts_of bs) bs ≡ Ok (numeral_value 10 0 (take (count bs) bs))
plain_value bs f l = ap (λ (p : Parts). number_at p bs) (parts bs f) ∙ at bs f (exponent_start (drop (count bs) bs)) l
