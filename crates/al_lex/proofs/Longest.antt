-- The longest pieces.
use Rattle.std.proofs.Common.{ℕ, zero, suc, ◌≡◌, ◌==◌, ◌+◌, ◌<◌, ◌≤◌, inl, inr, Bool, true, false, cond, ◌&&◌, List, [], ◌∷◌, length, take, refl, sym, ap, ◌∙◌, subst, get_or, arith, ap₂, eqb-true}
use Rattle.std.proofs.lemmas.List.Sums.{prefix_len-le-length}
use Rattle.std.specs.Char.{is_ascii_alphabetic}
use Rattle.std.specs.List.{list_all, prefix_len}
use Rattle.al_base.specs.Identifiers.{is_word_byte}
use Rattle.al_lex.specs.declared.token.Sort.TheVariants.{Gap, LineEnd}
use Rattle.al_lex.specs.Bytes.{is_line_end, is_inside_line, is_blank}
use Rattle.al_lex.specs.Shapes.{IsLineEnd, IsLongest, IsOf, IsWord}
use Rattle.al_lex.proofs.Runs.{letter_in_word}
use Rattle.al_lex.proofs.Joined.{both_left, both_right}

one : (n : ℕ) → 1 + n ≡ suc n
one n = omega arith

-- a run is all of one kind, and a longer front isn't
run_is_from : (p : ℕ → Bool) (b : ℕ) (bs : List ℕ) (t : Bool) → p b ≡ t → list_all p (take (prefix_len p bs) bs) ≡ true → list_all p (take (cond t (1 + prefix_len p bs) 0) (b ∷ bs)) ≡ true
run_is_from p b bs true e h = rw (one (prefix_len p bs), e) h
run_is_from p b bs false e h = refl

run_is : (p : ℕ → Bool) (bs : List ℕ) → list_all p (take (prefix_len p bs) bs) ≡ true
run_is p [] = refl
run_is p (b ∷ bs) = run_is_from p b bs (p b) refl (run_is p bs)

run_ends_from : (p : ℕ → Bool) (b : ℕ) (bs : List ℕ) (t : Bool) → p b ≡ t → ((m : ℕ) → prefix_len p bs < m → m ≤ length bs → list_all p (take m bs) ≡ true → ⊥)
    → (m : ℕ) → cond t (1 + prefix_len p bs) 0 < m → m ≤ length (b ∷ bs) → list_all p (take m (b ∷ bs)) ≡ true → ⊥
run_ends_from p b bs t e more zero l k h = absurd (omega arith)
run_ends_from p b bs true e more (suc m) l k h = more m (omega arith) (omega arith) (both_right (p b) _ h)
run_ends_from p b bs false e more (suc m) l k h = let f = both_left (p b) _ h in absurd (cc)

run_ends : (p : ℕ → Bool) (bs : List ℕ) (m : ℕ) → prefix_len p bs < m → m ≤ length bs → list_all p (take m bs) ≡ true → ⊥
run_ends p [] m l k h = absurd (omega arith)
run_ends p (b ∷ bs) m l k h = run_ends_from p b bs (p b) refl (run_ends p bs) m l k h

within : (p : ℕ → Bool) (bs : List ℕ) → prefix_len p bs ≤ length bs
within p bs = prefix_len-le-length p bs

pub word_front : (bs : List ℕ) → is_ascii_alphabetic (get_or bs 0 0) ≡ true → IsLongest IsWord bs (prefix_len is_word_byte bs)
word_front [] h = absurd (cc)
word_front (b ∷ bs) h =
    let n = prefix_len is_word_byte bs in
    let e : suc n ≡ prefix_len is_word_byte (b ∷ bs) = rw (letter_in_word b h) (sym (one n)) in
    let front : IsLongest IsWord (b ∷ bs) (suc n) = record {
      within = omega (arith, within is_word_byte bs);
      piece = (h, run_is is_word_byte bs);
      no_more = λ m l k w. longer_word b bs m l k w;
    } in
    subst (λ (z : ℕ). IsLongest IsWord (b ∷ bs) z) e front
  where
    longer_word : (b : ℕ) (bs : List ℕ) (m : ℕ) → suc (prefix_len is_word_byte bs) < m → m ≤ length (b ∷ bs) → IsWord (take m (b ∷ bs)) → ⊥
    longer_word b bs zero l k w = absurd (omega arith)
    longer_word b bs (suc m) l k w = run_ends is_word_byte bs m (omega arith) (omega arith) w.1

longer_comment : (bs : List ℕ) (m : ℕ) → suc (suc (prefix_len is_inside_line bs)) < m → m ≤ length (45 ∷ 45 ∷ bs) → IsOf Gap (take m (45 ∷ 45 ∷ bs)) → ⊥
longer_comment bs zero l k w = absurd (omega arith)
longer_comment bs (suc zero) l k w = absurd (omega arith)
longer_comment bs (suc (suc m)) l k (inl w) = w
longer_comment bs (suc (suc m)) l k (inr w) = run_ends is_inside_line bs m (omega arith) (omega arith) w.2

comment_of : (bs : List ℕ) → IsLongest (IsOf Gap) (45 ∷ 45 ∷ bs) (suc (suc (prefix_len is_inside_line bs)))
comment_of bs = record {
  within = omega (arith, within is_inside_line bs);
  piece = inr (refl, refl, run_is is_inside_line bs);
  no_more = longer_comment bs;
}

pub comment_front : (bs : List ℕ) → (get_or bs 0 0 == 45 && get_or bs 1 0 == 45) ≡ true → IsLongest (IsOf Gap) bs (prefix_len is_inside_line bs)
comment_front [] h = absurd (cc)
comment_front (b ∷ []) h = let e = both_right (b == 45) _ h in absurd (cc)
comment_front (b ∷ c ∷ bs) h =
    let n = prefix_len is_inside_line bs in
    let e : suc (suc n) ≡ 1 + (1 + n) = omega arith in
    let x : 45 ≡ b = sym (eqb-true b 45 (both_left _ _ h)) in
    let y : 45 ≡ c = sym (eqb-true c 45 (both_right (b == 45) _ h)) in
    subst (λ (z : ℕ). IsLongest (IsOf Gap) (z ∷ c ∷ bs) (prefix_len is_inside_line (z ∷ c ∷ bs))) x
    (subst (λ (z : ℕ). IsLongest (IsOf Gap) (45 ∷ z ∷ bs) (prefix_len is_inside_line (45 ∷ z ∷ bs))) y
    (subst (λ (z : ℕ). IsLongest (IsOf Gap) (45 ∷ 45 ∷ bs) z) e (comment_of bs)))

longer_blank : (b : ℕ) (bs : List ℕ) → is_blank b ≡ true → (m : ℕ) → 1 < m → m ≤ length (b ∷ bs) → IsOf Gap (take m (b ∷ bs)) → ⊥
longer_blank b bs h zero l k w = absurd (omega arith)
longer_blank b bs h (suc zero) l k w = absurd (omega arith)
longer_blank b [] h (suc (suc m)) l k w = absurd (omega arith)
longer_blank b (c ∷ bs) h (suc (suc m)) l k (inl w) = w
longer_blank b (c ∷ bs) h (suc (suc m)) l k (inr w) = let e = ap is_blank (sym (w.0)) ∙ h in absurd (cc)

pub blank_front : (bs : List ℕ) → is_blank (get_or bs 0 0) ≡ true → IsLongest (IsOf Gap) bs 1
blank_front [] h = absurd (cc)
blank_front (b ∷ bs) h = record { within = omega arith; piece = inl h; no_more = longer_blank b bs h }

longer_line_end : (b c : ℕ) (bs : List ℕ) (m : ℕ) → 2 < m → m ≤ length (b ∷ c ∷ bs) → IsLineEnd (take m (b ∷ c ∷ bs)) → ⊥
longer_line_end b c bs zero l k w = absurd (omega arith)
longer_line_end b c bs (suc zero) l k w = absurd (omega arith)
longer_line_end b c bs (suc (suc zero)) l k w = absurd (omega arith)
longer_line_end b c [] (suc (suc (suc m))) l k w = absurd (omega arith)
longer_line_end b c (d ∷ bs) (suc (suc (suc m))) l k w = w

pub pair_front : (bs : List ℕ) → (get_or bs 0 0 == 13 && get_or bs 1 0 == 10) ≡ true → IsLongest (IsOf LineEnd) bs 2
pair_front [] h = absurd (cc)
pair_front (b ∷ []) h = let e = both_right (b == 13) _ h in absurd (cc)
pair_front (b ∷ c ∷ bs) h = record {
  within = omega arith;
  piece = (eqb-true b 13 (both_left _ _ h), eqb-true c 10 (both_right (b == 13) _ h));
  no_more = longer_line_end b c bs;
}

no_pair : (b c : ℕ) → (b == 13 && c == 10) ≡ false → b ≡ 13 → c ≡ 10 → ⊥
no_pair b c h x y = let e = ap₂ (λ (u v : ℕ). u == 13 && v == 10) (sym x) (sym y) ∙ h in absurd (cc)

longer_single : (b : ℕ) (bs : List ℕ) → (b == 13 && get_or bs 0 0 == 10) ≡ false → (m : ℕ) → 1 < m → m ≤ length (b ∷ bs) → IsLineEnd (take m (b ∷ bs)) → ⊥
longer_single b bs h zero l k w = absurd (omega arith)
longer_single b bs h (suc zero) l k w = absurd (omega arith)
longer_single b [] h (suc (suc m)) l k w = absurd (omega arith)
longer_single b (c ∷ bs) h (suc (suc zero)) l k w = no_pair b c h w.0 w.1
longer_single b (c ∷ []) h (suc (suc (suc m))) l k w = absurd (omega arith)
longer_single b (c ∷ d ∷ bs) h (suc (suc (suc m))) l k w = w

pub line_end_front : (bs : List ℕ) → (get_or bs 0 0 == 13 && get_or bs 1 0 == 10) ≡ false → is_line_end (get_or bs 0 0) ≡ true → IsLongest (IsOf LineEnd) bs 1
line_end_front [] h i = absurd (cc)
line_end_front (b ∷ bs) h i = record { within = omega arith; piece = i; no_more = longer_single b bs h }
