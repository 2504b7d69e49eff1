-- Words as a loop reads them: their bytes, and where an underscore is bad.
use Rattle.std.proofs.Common.{ℕ, suc, ◌≡◌, ◌==◌, ◌+◌, ◌<◌, ◌≤◌, Bool, true, false, cond, ◌&&◌, List, [], ◌∷◌, length, take, drop, refl, sym, ap, ◌∙◌, get_or, arith, add-one, drop-cons}
use Rattle.std.specs.List.{list_any, onto_first, prefix_len, slice_split}
use Rattle.std.proofs.lemmas.List.Sums.{prefix_len-drop_yes, prefix_len-drop_no, prefix_len-drop_all}
use Rattle.al_base.specs.Identifiers.{is_empty, is_word_byte}

-- the word at the front
abbrev pub front : List ℕ → List ℕ
front bs = take (prefix_len is_word_byte bs) bs

-- the parts where the first begins here, or has a byte already
abbrev parts : Bool → List (List ℕ) → List (List ℕ)
parts begins ps = cond begins ps (onto_first 0 ps)

-- whether an underscore of what is left of a word is bad
abbrev pub is_bad : Bool → List ℕ → Bool
is_bad begins bs = list_any is_empty (parts begins (slice_split (λ b. b == 95) bs))

parts_on : (f t : Bool) (b : ℕ) (ps : List (List ℕ)) → (t && f) ≡ false → list_any is_empty (parts f (cond t ([] ∷ ps) (onto_first b ps))) ≡ list_any is_empty (parts t ps)
parts_on true true b ps h = absurd (cc)
parts_on false true b ps h = refl
parts_on true false b [] h = refl
parts_on false false b [] h = refl
parts_on true false b (p ∷ ps) h = refl
parts_on false false b (p ∷ ps) h = refl

parts_bad : (f t : Bool) (b : ℕ) (ps : List (List ℕ)) → (t && f) ≡ true → list_any is_empty (parts f (cond t ([] ∷ ps) (onto_first b ps))) ≡ true
parts_bad true true b ps h = refl
parts_bad false true b ps h = absurd (cc)
parts_bad f false b ps h = absurd (cc)

pub bad_over : (f : Bool) → is_bad f [] ≡ f
bad_over true = refl
bad_over false = refl

front_more : (b : ℕ) (bs : List ℕ) → is_word_byte b ≡ true → front (b ∷ bs) ≡ b ∷ front bs
front_more b bs h =
    let on : 1 + prefix_len is_word_byte bs ≡ suc (prefix_len is_word_byte bs) = omega arith in
    ap (λ (t : Bool). take (cond t (1 + prefix_len is_word_byte bs) 0) (b ∷ bs)) h ∙ ap (λ (k : ℕ). take k (b ∷ bs)) on

module _ (bs : List ℕ) (i : ℕ) (inside : i < length bs) where
  here : drop i bs ≡ get_or bs i 0 ∷ drop (i + 1) bs
  here = rw add-one (drop-cons bs i 0 inside)

  module _ (h : is_word_byte (get_or bs i 0) ≡ true) where
    pub len_step : i + 1 + prefix_len is_word_byte (drop (i + 1) bs) ≡ i + prefix_len is_word_byte (drop i bs)
    len_step = omega (arith, prefix_len-drop_yes is_word_byte bs i 0 inside h)

    front_here : front (drop i bs) ≡ get_or bs i 0 ∷ front (drop (i + 1) bs)
    front_here = ap front here ∙ front_more (get_or bs i 0) (drop (i + 1) bs) h

    pub bad_step : (f : Bool) → (get_or bs i 0 == 95 && f) ≡ false → is_bad (get_or bs i 0 == 95) (front (drop (i + 1) bs)) ≡ is_bad f (front (drop i bs))
    bad_step f n = sym (ap (is_bad f) front_here ∙ parts_on f (get_or bs i 0 == 95) (get_or bs i 0) (slice_split (λ b. b == 95) (front (drop (i + 1) bs))) n)

    pub bad_here : (f : Bool) → (get_or bs i 0 == 95 && f) ≡ true → is_bad f (front (drop i bs)) ≡ true
    bad_here f y = ap (is_bad f) front_here ∙ parts_bad f (get_or bs i 0 == 95) (get_or bs i 0) (slice_split (λ b. b == 95) (front (drop (i + 1) bs))) y

  pub stops_here : is_word_byte (get_or bs i 0) ≡ false → prefix_len is_word_byte (drop i bs) ≡ 0
  stops_here h = prefix_len-drop_no is_word_byte bs i 0 inside h

pub stops_after : (bs : List ℕ) (i : ℕ) → length bs ≤ i → prefix_len is_word_byte (drop i bs) ≡ 0
stops_after bs i l = prefix_len-drop_all is_word_byte bs i l

-- where the word is over
pub bad_end : (f : Bool) (bs : List ℕ) → prefix_len is_word_byte bs ≡ 0 → is_bad f (front bs) ≡ f
bad_end f bs e = ap (λ (k : ℕ). is_bad f (take k bs)) e ∙ bad_over f
