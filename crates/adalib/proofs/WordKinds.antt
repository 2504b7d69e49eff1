-- Which kinds of words there are.
use Rattle.std.proofs.Common.{suc, ◌≡◌, ◌⊎◌, inl, inr, ◌∙◌, ℕ, Bool, true, false, [], ◌∷◌, ◌++◌, Option, Some, None, refl, sym, ap, ap₂, subst, arith, ◌==◌, not, ◌+◌}
use Rattle.std.specs.List.{before_first, after_first, position_or_len}
use Rattle.std.specs.Str.{bytes_eq}
use Rattle.std.proofs.lemmas.Slice.Eq.{bytes_eq-Decides}
use Rattle.std.proofs.lemmas.Bool.Decides.{nat_tests}
use Rattle.std.proofs.lemmas.List.Sums.{take_while-cons}
use Rattle.clap.specs.Words.{Text}
use Rattle.clap.specs.Lexer.{has_byte, long_of, name_and_value, short_of}
use Rattle.adalib.specs.Words.{is_plain, tick_word, two_hyphens}
use Rattle.adalib.proofs.Walks.{tick_id}

pub data Kind : Text → Type 0 where
  hyphens : Kind two_hyphens
  tick_alone : Kind tick_word
  tick_joined : (value : Text) → Kind (tick_word ++ 61 ∷ value)
  unknown : (word name : Text) (value : Option Text) → bytes_eq word two_hyphens ≡ false → long_of word ≡ Some (name, value) → bytes_eq tick_id name ≡ false → Kind word
  short : (first : ℕ) (rest : Text) → (first == 45) ≡ false → Kind (45 ∷ first ∷ rest)
  plain : (word : Text) → is_plain word ≡ true → bytes_eq word two_hyphens ≡ false → long_of word ≡ None → short_of word ≡ None → Kind word

equal : (a b : ℕ) → (a == b) ≡ true → a ≡ b
equal a b e = grind (arith, nat_tests)

-- a word without `=`, or what comes before the first and after it
cut : (text : Text) → ((has_byte 61 text ≡ false) × (before_first (λ x. x == 61) text ≡ text))
    ⊎ ((has_byte 61 text ≡ true) × (text ≡ before_first (λ x. x == 61) text ++ 61 ∷ after_first (λ x. x == 61) text))
cut [] = inl (refl, refl)
cut (x ∷ text) = go (x == 61) refl (cut text)
  where
    before : (x == 61) ≡ false → before_first (λ y. y == 61) (x ∷ text) ≡ x ∷ before_first (λ y. y == 61) text
    before e = take_while-cons (λ y. not (y == 61)) x text ∙ rw e refl

    after : (x == 61) ≡ false → after_first (λ y. y == 61) (x ∷ text) ≡ after_first (λ y. y == 61) text
    after e =
        let next : 1 + position_or_len (λ y. y == 61) text + 1 ≡ suc (position_or_len (λ y. y == 61) text + 1) = omega arith in
        rw e (rw next refl)

    go : (b : Bool) → (x == 61) ≡ b
        → ((has_byte 61 text ≡ false) × (before_first (λ y. y == 61) text ≡ text)) ⊎ ((has_byte 61 text ≡ true) × (text ≡ before_first (λ y. y == 61) text ++ 61 ∷ after_first (λ y. y == 61) text))
        → ((has_byte 61 (x ∷ text) ≡ false) × (before_first (λ y. y == 61) (x ∷ text) ≡ x ∷ text))
        ⊎ ((has_byte 61 (x ∷ text) ≡ true) × (x ∷ text ≡ before_first (λ y. y == 61) (x ∷ text) ++ 61 ∷ after_first (λ y. y == 61) (x ∷ text)))
    go true e rest = inr (rw e refl, rw e (ap (λ (y : ℕ). y ∷ text) (equal x 61 e)))
    go false e (inl h) = inl (rw e h.0, take_while-cons (λ y. not (y == 61)) x text ∙ rw e (ap (λ t. x ∷ t) h.1))
    go false e (inr h) = inr (rw e h.0, ap (λ t. x ∷ t) h.1 ∙ ap₂ (λ (s t : Text). s ++ 61 ∷ t) (sym (before e)) (sym (after e)))

-- the kind of a word that begins with two hyphens and goes on
kind_of_long : (x : ℕ) (text : Text) → Kind (45 ∷ 45 ∷ x ∷ text)
kind_of_long x text = go (bytes_eq tick_id (before_first (λ y. y == 61) (x ∷ text))) refl (cut (x ∷ text))
  where
    go : (b : Bool) → bytes_eq tick_id (before_first (λ y. y == 61) (x ∷ text)) ≡ b
        → ((has_byte 61 (x ∷ text) ≡ false) × (before_first (λ y. y == 61) (x ∷ text) ≡ x ∷ text))
        ⊎ ((has_byte 61 (x ∷ text) ≡ true) × (x ∷ text ≡ before_first (λ y. y == 61) (x ∷ text) ++ 61 ∷ after_first (λ y. y == 61) (x ∷ text)))
        → Kind (45 ∷ 45 ∷ x ∷ text)
    go false e h = unknown (45 ∷ 45 ∷ x ∷ text) (name_and_value (x ∷ text)).0 (name_and_value (x ∷ text)).1 refl refl e
    go true e (inl h) =
        let name : tick_id ≡ x ∷ text = (bytes_eq-Decides tick_id (before_first (λ y. y == 61) (x ∷ text))).0 e ∙ h.1 in
        subst (λ t. Kind (45 ∷ 45 ∷ t)) name tick_alone
    go true e (inr h) =
        let name : tick_id ≡ before_first (λ y. y == 61) (x ∷ text) = (bytes_eq-Decides tick_id (before_first (λ y. y == 61) (x ∷ text))).0 e in
        let whole : tick_id ++ 61 ∷ after_first (λ y. y == 61) (x ∷ text) ≡ x ∷ text = ap (λ t. t ++ 61 ∷ after_first (λ y. y == 61) (x ∷ text)) name ∙ sym h.1 in
        subst (λ t. Kind (45 ∷ 45 ∷ t)) whole (tick_joined (after_first (λ y. y == 61) (x ∷ text)))

kind_of_hyphen : (b : ℕ) (rest : Text) → Kind (45 ∷ b ∷ rest)
kind_of_hyphen b rest = go (b == 45) refl
  where
    two : (more : Text) → Kind (45 ∷ 45 ∷ more)
    two [] = hyphens
    two (x ∷ text) = kind_of_long x text

    go : (t : Bool) → (b == 45) ≡ t → Kind (45 ∷ b ∷ rest)
    go false e = short b rest e
    go true e = subst (λ y. Kind (45 ∷ y ∷ rest)) (sym (equal b 45 e)) (two rest)

pub kind_of : (word : Text) → Kind word
kind_of [] = plain [] refl refl refl refl
kind_of (a ∷ []) = go (a == 45) refl
  where
    go : (t : Bool) → (a == 45) ≡ t → Kind (a ∷ [])
    go true e = rw (equal a 45 e) (plain (45 ∷ []) refl refl refl refl)
    go false e = plain (a ∷ []) refl (rw e refl) (rw e refl) (rw e refl)
kind_of (a ∷ b ∷ rest) = go (a == 45) refl
  where
    go : (t : Bool) → (a == 45) ≡ t → Kind (a ∷ b ∷ rest)
    go true e = subst (λ y. Kind (y ∷ b ∷ rest)) (sym (equal a 45 e)) (kind_of_hyphen b rest)
    go false e = plain (a ∷ b ∷ rest) (rw e refl) (rw e refl) (rw e refl) (rw e refl)

-- a plain word is none of the others
pub no_option : (word : Text) → is_plain word ≡ true → (bytes_eq word two_hyphens ≡ false) × (long_of word ≡ None) × (short_of word ≡ None)
no_option [] is = (refl, refl, refl)
no_option (a ∷ []) is = go (a == 45) refl
  where
    go : (t : Bool) → (a == 45) ≡ t → (bytes_eq (a ∷ []) two_hyphens ≡ false) × (long_of (a ∷ []) ≡ None) × (short_of (a ∷ []) ≡ None)
    go true e = rw e (refl, refl, refl)
    go false e = rw e (refl, refl, refl)
no_option (a ∷ b ∷ rest) is = go (a == 45) refl
  where
    go : (t : Bool) → (a == 45) ≡ t → (bytes_eq (a ∷ b ∷ rest) two_hyphens ≡ false) × (long_of (a ∷ b ∷ rest) ≡ None) × (short_of (a ∷ b ∷ rest) ≡ None)
    go true e = let bad : false ≡ true = rw e at is in cc
    go false e = rw e (refl, refl, refl)
