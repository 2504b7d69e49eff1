-- How long a string is, as a loop finds it.
use Rattle.std.proofs.Common.{ℕ, suc, ◌≡◌, ◌+◌, ◌<◌, ◌≤◌, true, false, List, [], ◌∷◌, length, drop, Option, Some, None, option_map, refl, sym, ap, ◌∙◌, arith, add-one, add-zero, drop-cons, get_or, get_or-drop, length-drop, drop_of_length-le, ne_eqb}
use Rattle.al_lex.specs.Strings.{body_len}
use Rattle.al_lex.specs.Bytes.{is_printable}

-- after i bytes that were passed
abbrev pub farther : ℕ → Option ℕ → Option ℕ
farther i o = option_map (λ n. i + n) o

pub farther-farther : (i j : ℕ) (o : Option ℕ) → farther i (farther j o) ≡ farther (i + j) o
farther-farther i j None = refl
farther-farther i j (Some n) = ap (λ (k : ℕ). Some k) (omega arith)

pub plain : (b : ℕ) (rest : List ℕ) → (b ≡ 34 → ⊥) → is_printable b ≡ true → body_len (b ∷ rest) ≡ farther 1 (body_len rest)
unfolding body_len
plain b [] q h = rw (ne_eqb b 34 q) refl
plain b (c ∷ cs) q h = rw (ne_eqb b 34 q, h) refl

pub bad : (b : ℕ) (rest : List ℕ) → (b ≡ 34 → ⊥) → is_printable b ≡ false → body_len (b ∷ rest) ≡ None
unfolding body_len
bad b [] q h = rw (ne_eqb b 34 q) refl
bad b (c ∷ cs) q h = rw (ne_eqb b 34 q, h) refl

pub twice : (rest : List ℕ) → body_len (34 ∷ 34 ∷ rest) ≡ farther 2 (body_len rest)
unfolding body_len
twice rest = refl

pub last : (rest : List ℕ) → (0 < length rest → get_or rest 0 0 ≡ 34 → ⊥) → body_len (34 ∷ rest) ≡ Some 1
unfolding body_len
last [] h = refl
last (c ∷ cs) h = rw (ne_eqb c 34 (h (omega arith))) refl

module _ (bs : List ℕ) (i : ℕ) (inside : i < length bs) where
  here : drop i bs ≡ get_or bs i 0 ∷ drop (i + 1) bs
  here = rw add-one (drop-cons bs i 0 inside)

  pub plain_step : (get_or bs i 0 ≡ 34 → ⊥) → is_printable (get_or bs i 0) ≡ true → farther i (body_len (drop i bs)) ≡ farther (i + 1) (body_len (drop (i + 1) bs))
  plain_step q h = ap (λ (xs : List ℕ). farther i (body_len xs)) here ∙ ap (farther i) (plain (get_or bs i 0) (drop (i + 1) bs) q h) ∙ farther-farther i 1 (body_len (drop (i + 1) bs))

  pub bad_step : (get_or bs i 0 ≡ 34 → ⊥) → is_printable (get_or bs i 0) ≡ false → farther i (body_len (drop i bs)) ≡ None
  bad_step q h = ap (λ (xs : List ℕ). farther i (body_len xs)) here ∙ ap (farther i) (bad (get_or bs i 0) (drop (i + 1) bs) q h)

  pub twice_step : get_or bs i 0 ≡ 34 → i + 1 < length bs → get_or bs (i + 1) 0 ≡ 34 → farther i (body_len (drop i bs)) ≡ farther (i + 2) (body_len (drop (i + 2) bs))
  twice_step q l h =
      let e : drop (i + 1) bs ≡ get_or bs (i + 1) 0 ∷ drop (i + 2) bs = drop-cons bs (i + 1) 0 l ∙ ap (λ (k : ℕ). get_or bs (i + 1) 0 ∷ drop k bs) (let n : suc (i + 1) ≡ i + 2 = omega arith in n) in
      ap (λ (xs : List ℕ). farther i (body_len xs)) (here ∙ ap (λ (b : ℕ). b ∷ drop (i + 1) bs) q ∙ ap (λ (xs : List ℕ). 34 ∷ xs) (e ∙ ap (λ (b : ℕ). b ∷ drop (i + 2) bs) h))
      ∙ ap (farther i) (twice (drop (i + 2) bs)) ∙ farther-farther i 2 (body_len (drop (i + 2) bs))

  pub last_step : get_or bs i 0 ≡ 34 → (i + 1 < length bs → get_or bs (i + 1) 0 ≡ 34 → ⊥) → farther i (body_len (drop i bs)) ≡ Some (i + 1)
  last_step q h =
      ap (λ (xs : List ℕ). farther i (body_len xs)) (here ∙ ap (λ (b : ℕ). b ∷ drop (i + 1) bs) q)
      ∙ ap (farther i) (last (drop (i + 1) bs) (λ l e. h (omega (arith, length-drop (i + 1) bs)) (sym (get_or-drop (i + 1) bs 0 0 ∙ ap (λ (k : ℕ). get_or bs k 0) (add-zero (i + 1))) ∙ e)))

pub over : (bs : List ℕ) (i : ℕ) → length bs ≤ i → farther i (body_len (drop i bs)) ≡ None
unfolding body_len
over bs i h = ap (λ (xs : List ℕ). farther i (body_len xs)) (drop_of_length-le bs h)
