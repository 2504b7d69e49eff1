-- What the sets of kinds tell of the next lexeme, and the parts of a step.
use Rattle.std.proofs.Common.{ℕ, ◌≡◌, ◌==◌, Bool, true, false, not, ◌&&◌, ◌||◌, ◌⊎◌, inl, inr, List, [], ◌∷◌, ◌++◌, Ok, Err, if◌then◌else◌, refl, sym, ◌∙◌, subst, eqb-true}
use Rattle.std.proofs.lemmas.Bool.{and_parts, or_cases, or_parts, or_left, or_right, both_ways, not-true, false_from_ne_true}
use Rattle.al_tree_grammar.specs.Grammar.{Lexeme, kind}
use Rattle.al_tree_grammar.specs.Reading.{mem, disjoint, begins, Read, ◌>>=◌}

pub mem-append : (k : ℕ) (xs ys : List ℕ) → mem k (xs ++ ys) ≡ (mem k xs || mem k ys)
mem-append k [] ys = refl
mem-append k (x ∷ xs) ys = or_assoc (k == x) (mem k xs) (mem k ys) (mem-append k xs ys)
  where
    or_assoc : (a b c : Bool) {d : Bool} → d ≡ (b || c) → (a || d) ≡ ((a || b) || c)
    or_assoc true b c e = refl
    or_assoc false b c e = e

pub begins-append : (xs ys : List ℕ) (ts : List Lexeme) → begins (xs ++ ys) ts ≡ (begins xs ts || begins ys ts)
begins-append xs ys [] = refl
begins-append xs ys (t ∷ ts) = mem-append (kind t) xs ys

-- no part begins what the whole does not begin
pub begins_parts : (xs ys : List ℕ) (ts : List Lexeme) → begins (xs ++ ys) ts ≡ false → (begins xs ts ≡ false) × (begins ys ts ≡ false)
begins_parts xs ys ts h = or_parts (begins xs ts) (begins ys ts) (sym (begins-append xs ys ts) ∙ h)

-- no part begins it, so the whole does not
pub begins_neither : (xs ys : List ℕ) (ts : List Lexeme) → begins xs ts ≡ false → begins ys ts ≡ false → begins (xs ++ ys) ts ≡ false
begins_neither xs ys ts h i = begins-append xs ys ts ∙ rw (h, i) refl

pub disjoint_at : (xs ys : List ℕ) (k : ℕ) → disjoint xs ys ≡ true → mem k xs ≡ true → mem k ys ≡ false
disjoint_at [] ys k d h = absurd (cc)
disjoint_at (x ∷ xs) ys k d h =
    let p = and_parts (not (mem x ys)) (disjoint xs ys) d in
    elim (or_cases (k == x) (mem k xs) h) [
      | inl e ↦ subst (λ j. mem j ys ≡ false) (sym (eqb-true k x e)) (not-true (mem x ys) p.0)
      | inr m ↦ disjoint_at xs ys k p.1 m
    ]

pub disjoint_back : (xs ys : List ℕ) (k : ℕ) → disjoint xs ys ≡ true → mem k ys ≡ true → mem k xs ≡ false
disjoint_back xs ys k d h = false_from_ne_true (mem k xs) (λ m. both_ways (mem k ys) (disjoint_at xs ys k d m) h)

-- the lexemes begin with one of the kinds, or there is none and there may be none
abbrev pub Starts : List ℕ → Bool → List Lexeme → Type 0
Starts s e [] = e ≡ true
Starts s e (x ∷ xs) = mem (kind x) s ≡ true

-- what one rule has at its end is followed by another
pub follows : (ms fs ns : List ℕ) (e : Bool) (xs ts : List Lexeme) → disjoint ms fs ≡ true → Starts fs e xs → begins (if e then ms ++ ns else ns) ts ≡ false → begins ms (xs ++ ts) ≡ false
follows ms fs ns true [] ts d s h = (begins_parts ms ns ts h).0
follows ms fs ns false [] ts d s h = absurd (cc)
follows ms fs ns e (x ∷ xs) ts d s h = disjoint_back ms fs (kind x) d s

pub at_end : (ms ns : List ℕ) (e : Bool) (ts : List Lexeme) → begins (if e then ms ++ ns else ns) ts ≡ false → begins ns ts ≡ false
at_end ms ns true ts h = (begins_parts ms ns ts h).1
at_end ms ns false ts h = h

-- the next lexeme is the same
pub begins_same : (s : List ℕ) (p : List Lexeme) (c : Lexeme) (r r' : List Lexeme) → begins s (p ++ c ∷ r) ≡ begins s (p ++ c ∷ r')
begins_same s [] c r r' = refl
begins_same s (x ∷ p) c r r' = refl

pub starts_left : (fs gs : List ℕ) (xs : List Lexeme) → Starts fs false xs → Starts (fs ++ gs) false xs
starts_left fs gs [] s = s
starts_left fs gs (x ∷ xs) s = mem-append (kind x) fs gs ∙ or_left (mem (kind x) fs) (mem (kind x) gs) s

pub starts_right : (fs gs : List ℕ) (xs : List Lexeme) → Starts gs false xs → Starts (fs ++ gs) false xs
starts_right fs gs [] s = s
starts_right fs gs (x ∷ xs) s = mem-append (kind x) fs gs ∙ or_right (mem (kind x) fs) (mem (kind x) gs) s

-- with something after it
pub starts_begins : (s : List ℕ) (xs ts : List Lexeme) → Starts s false xs → begins s (xs ++ ts) ≡ true
starts_begins s [] ts h = absurd (cc)
starts_begins s (x ∷ xs) ts h = h

pub starts_not : (s r : List ℕ) (xs ts : List Lexeme) → disjoint s r ≡ true → Starts r false xs → begins s (xs ++ ts) ≡ false
starts_not s r [] ts d h = absurd (cc)
starts_not s r (x ∷ xs) ts d h = disjoint_back s r (kind x) d h

-- one after the other
pub starts_both : (fs gs : List ℕ) (d e : Bool) (xs ys : List Lexeme) → Starts fs d xs → Starts gs e ys → Starts (if d then fs ++ gs else fs) (d && e) (xs ++ ys)
starts_both fs gs true e [] [] s r = r
starts_both fs gs true e [] (y ∷ ys) s r = mem-append (kind y) fs gs ∙ or_right (mem (kind y) fs) (mem (kind y) gs) r
starts_both fs gs false e [] ys s r = absurd (cc)
starts_both fs gs true e (x ∷ xs) ys s r = mem-append (kind x) fs gs ∙ or_left (mem (kind x) fs) (mem (kind x) gs) s
starts_both fs gs false e (x ∷ xs) ys s r = s

pub bind_ok : (m : Read) (f : List Lexeme → Read) (r : List Lexeme) → (m >>= f) ≡ Ok r → (y : List Lexeme) × (m ≡ Ok y) × (f y ≡ Ok r)
bind_ok (Ok y) f r e = (y, refl, e)
bind_ok (Err y) f r e = absurd (cc)

pub bind_err : (m : Read) (f : List Lexeme → Read) (r : List Lexeme) → (m >>= f) ≡ Err r → (m ≡ Err r) ⊎ ((y : List Lexeme) × (m ≡ Ok y) × (f y ≡ Err r))
bind_err (Ok y) f r e = inr (y, refl, e)
bind_err (Err y) f r e = inl e

pub ok_same : (x y : List Lexeme) (m : Read) → m ≡ Ok x → m ≡ Ok y → x ≡ y
ok_same x y m e d = cc

pub err_same : (x y : List Lexeme) (m : Read) → m ≡ Err x → m ≡ Err y → x ≡ y
err_same x y m e d = cc

pub not_both : {P : Type 0} (x y : List Lexeme) (m : Read) → m ≡ Ok x → m ≡ Err y → P
not_both x y m e d = absurd (cc)
