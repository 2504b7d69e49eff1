-- The longest strings.
use Rattle.std.proofs.Common.{ℕ, zero, suc, ◌≡◌, ◌==◌, ◌+◌, ◌<◌, ◌≤◌, inl, inr, Bool, true, false, List, [], ◌∷◌, ◌++◌, length, take, drop, Option, Some, None, refl, sym, ap, ◌∙◌, subst, get_or, arith, eqb-true, ne_eqb}
use Rattle.std.specs.Prelude.{if◌then◌else◌}
use Rattle.std.proofs.lemmas.Bool.{cases_eq, cases_lt, eqb-false}
use Rattle.std.proofs.lemmas.List.{take_more, get_or_past}
use Rattle.al_lex.specs.Bytes.{is_printable}
use Rattle.al_lex.specs.Strings.{body_len, string_piece}
use Rattle.al_lex.specs.Shapes.{AreElements, IsLongest, IsString}
use Rattle.al_lex.proofs.Bodies.{farther, plain, bad, twice, last}
use Rattle.al_lex.proofs.Found.{Found}
use Rattle.al_lex.proofs.Prefixes.{head_of_front, left_part, parts_length}

-- the elements of a string after its opening quote, as far as they go
pub record Elements (bs : List ℕ) : Type 0 where
  pub len : ℕ
  pub front : IsLongest AreElements bs len
  pub body : body_len bs ≡ (if get_or bs len 0 == 34 then Some (len + 1) else None)

never : (b : ℕ) (rest : List ℕ) → ((xs : List ℕ) (m : ℕ) → xs ≡ take m rest → AreElements (b ∷ xs) → ⊥) → (m : ℕ) → 0 < m → m ≤ length (b ∷ rest) → AreElements (take m (b ∷ rest)) → ⊥
never b rest f zero l k w = absurd (omega arith)
never b rest f (suc m) l k w = f (take m rest) m refl w

stopped : (b : ℕ) (rest : List ℕ) → ((xs : List ℕ) (m : ℕ) → xs ≡ take m rest → AreElements (b ∷ xs) → ⊥) → IsLongest AreElements (b ∷ rest) 0
stopped b rest f = record { within = omega arith; piece = tt; no_more = never b rest f }

no_other : (b : ℕ) (xs : List ℕ) → (b ≡ 34 → ⊥) → is_printable b ≡ false → AreElements (b ∷ xs) → ⊥
no_other b [] n h w = let e = w.0 in absurd (cc)
no_other b (c ∷ cs) n h (inl w) = let e = w.0.0 in absurd (cc)
no_other b (c ∷ cs) n h (inr w) = n w.0.0

no_quote : (xs : List ℕ) → (get_or xs 0 0 ≡ 34 → ⊥) → AreElements (34 ∷ xs) → ⊥
no_quote [] n w = w.1 refl
no_quote (c ∷ cs) n (inl w) = w.0.1 refl
no_quote (c ∷ cs) n (inr w) = n w.0.1

plain_more : (b : ℕ) (xs : List ℕ) → is_printable b ≡ true → (b ≡ 34 → ⊥) → AreElements xs → AreElements (b ∷ xs)
plain_more b [] h n w = (h, n)
plain_more b (c ∷ cs) h n w = inl ((h, n), w)

plain_less : (b : ℕ) (xs : List ℕ) → (b ≡ 34 → ⊥) → AreElements (b ∷ xs) → AreElements xs
plain_less b [] n w = tt
plain_less b (c ∷ cs) n (inl w) = w.1
plain_less b (c ∷ cs) n (inr w) = absurd (n w.0.0)

further : (k n l : ℕ) (t : Bool) → k + n ≡ l → farther k (if t then Some n else None) ≡ (if t then Some l else None)
further k n l true e = ap (λ (z : ℕ). Some z) e
further k n l false e = refl

plain_no_more : (b : ℕ) (rest : List ℕ) (n : ℕ) → (b ≡ 34 → ⊥) → IsLongest AreElements rest n → (m : ℕ) → suc n < m → m ≤ length (b ∷ rest) → AreElements (take m (b ∷ rest)) → ⊥
plain_no_more b rest n ne f zero l k w = absurd (omega arith)
plain_no_more b rest n ne f (suc m) l k w = f.no_more m (omega arith) (omega arith) (plain_less b (take m rest) ne w)

plain_first : (b : ℕ) (rest : List ℕ) → Elements rest → (b ≡ 34 → ⊥) → is_printable b ≡ true → Elements (b ∷ rest)
plain_first b rest e n h = record {
  len = suc e.len;
  front = record { within = omega (arith, e.front.within); piece = plain_more b (take e.len rest) h n e.front.piece; no_more = plain_no_more b rest e.len n e.front };
  body = plain b rest n h ∙ ap (farther 1) e.body ∙ further 1 (e.len + 1) (suc e.len + 1) (get_or rest e.len 0 == 34) (omega arith);
}

other_first : (b : ℕ) (rest : List ℕ) → Elements rest → (b ≡ 34 → ⊥) → (t : Bool) → is_printable b ≡ t → Elements (b ∷ rest)
other_first b rest e n true h = plain_first b rest e n h
other_first b rest e n false h = record {
  len = 0;
  front = stopped b rest (λ xs m s w. no_other b xs n h w);
  body = bad b rest n h ∙ sym (rw (ne_eqb b 34 n) refl);
}

quote_first : (rest : List ℕ) → (get_or rest 0 0 ≡ 34 → ⊥) → Elements (34 ∷ rest)
quote_first rest n = record {
  len = 0;
  front = stopped 34 rest (λ xs m s w. no_quote xs (λ h. n (head_of_front 34 (omega arith) m rest (ap (λ (zs : List ℕ). get_or zs 0 0) (sym s) ∙ h))) w);
  body = last rest (λ l h. n h);
}

twice_no_more : (rest : List ℕ) (n : ℕ) → IsLongest AreElements rest n → (m : ℕ) → suc (suc n) < m → m ≤ length (34 ∷ 34 ∷ rest) → AreElements (take m (34 ∷ 34 ∷ rest)) → ⊥
twice_no_more rest n f zero l k w = absurd (omega arith)
twice_no_more rest n f (suc zero) l k w = absurd (omega arith)
twice_no_more rest n f (suc (suc m)) l k (inl w) = w.0.1 refl
twice_no_more rest n f (suc (suc m)) l k (inr w) = f.no_more m (omega arith) (omega arith) w.1

twice_first : (rest : List ℕ) → Elements rest → Elements (34 ∷ 34 ∷ rest)
twice_first rest e = record {
  len = suc (suc e.len);
  front = record { within = omega (arith, e.front.within); piece = inr ((refl, refl), e.front.piece); no_more = twice_no_more rest e.len e.front };
  body = twice rest ∙ ap (farther 2) e.body ∙ further 2 (e.len + 1) (suc (suc e.len) + 1) (get_or rest e.len 0 == 34) (omega arith);
}

quotes_first : (b c : ℕ) (bs : List ℕ) → Elements bs → b ≡ 34 → Elements (b ∷ c ∷ bs)
quotes_first b c bs e h =
    subst (λ (z : ℕ). Elements (z ∷ c ∷ bs)) (sym h) (elim (cases_eq c 34) [
      | inl f ↦ subst (λ (z : ℕ). Elements (34 ∷ z ∷ bs)) (sym f) (twice_first bs e)
      | inr n ↦ quote_first (c ∷ bs) n
    ])

no_elements : Elements []
unfolding body_len
no_elements = record { len = 0; front = record { within = omega arith; piece = tt; no_more = λ m l k w. absurd (omega arith) }; body = refl }

pub elements : (bs : List ℕ) → Elements bs
elements [] = no_elements
elements (b ∷ []) = elim (cases_eq b 34) [
  | inl h ↦ subst (λ (z : ℕ). Elements (z ∷ [])) (sym h) (quote_first [] (λ e. absurd (omega arith)))
  | inr n ↦ other_first b [] no_elements n (is_printable b) refl
]
elements (b ∷ c ∷ bs) = elim (cases_eq b 34) [
  | inl h ↦ quotes_first b c bs (elements bs) h
  | inr n ↦ other_first b (c ∷ bs) (elements (c ∷ bs)) n (is_printable b) refl
]

longer_string : (rest : List ℕ) (n : ℕ) → IsLongest AreElements rest n → (m : ℕ) → suc (suc n) < m → m ≤ length (34 ∷ rest) → IsString (take m (34 ∷ rest)) → ⊥
longer_string rest n f zero l k w = absurd (omega arith)
longer_string rest n f (suc m) l k w =
    let xs = w.0 in
    let cut : take m rest ≡ xs ++ 34 ∷ [] = (let e = w.2 in cc) in
    let lens : length xs + 1 ≡ m = parts_length xs (34 ∷ []) rest m (omega arith) cut in
    f.no_more (length xs) (omega arith) (omega arith) (subst AreElements (sym (left_part xs (34 ∷ []) rest m cut)) w.1)

pub string_front : (rest : List ℕ) (n : ℕ) → IsLongest AreElements rest n → get_or rest n 0 ≡ 34 → IsLongest IsString (34 ∷ rest) (suc (suc n))
string_front rest n f h =
    let inside : n < length rest = elim (cases_lt n (length rest)) [ inl l ↦ l | inr g ↦ absurd (omega (arith, get_or_past rest n 0 g)) ] in
    let same : n + 1 ≡ suc n = omega arith in
    let closed : take (suc n) rest ≡ take n rest ++ 34 ∷ [] = ap (λ (k : ℕ). take k rest) (sym same) ∙ take_more rest n 0 inside ∙ ap (λ (k : ℕ). take n rest ++ k ∷ []) h in
    record {
      within = omega arith;
      piece = (take n rest, f.piece, ap (λ (xs : List ℕ). 34 ∷ xs) closed);
      no_more = longer_string rest n f;
    }

string_case : (rest : List ℕ) (e : Elements rest) (t : Bool) → (get_or rest e.len 0 == 34) ≡ t → Found (string_piece (if t then Some (e.len + 1) else None)) (34 ∷ rest)
string_case rest e true h =
    let same : suc (suc e.len) ≡ 1 + (e.len + 1) = omega arith in
    (subst (λ (n : ℕ). IsLongest IsString (34 ∷ rest) n) same (string_front rest e.len e.front (eqb-true (get_or rest e.len 0) 34 h)), tt)
string_case rest e false h = (e.len, refl, e.front, eqb-false (get_or rest e.len 0) 34 h)

pub string_good : (bs : List ℕ) → (get_or bs 0 0 == 34) ≡ true → Found (string_piece (body_len (drop 1 bs))) bs
string_good [] h = absurd (cc)
string_good (b ∷ rest) h =
    let e = elements rest in
    let quote : 34 ≡ b = sym (eqb-true b 34 h) in
    subst (λ (z : ℕ). Found (string_piece (body_len rest)) (z ∷ rest)) quote
    (subst (λ (o : Option ℕ). Found (string_piece o) (34 ∷ rest)) (sym e.body) (string_case rest e (get_or rest e.len 0 == 34) refl))
