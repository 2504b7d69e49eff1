-- The words of a line, and its number.
use Rattle.std.proofs.Common.{◌≡◌, ℕ, suc, ◌+◌, ◌≤◌, Bool, true, false, cond, eqb, ltb, List, [], ◌∷◌, length, take, drop, Option, Some, None, is_some, refl, ap, ◌∙◌, arith}
use Rattle.std.specs.List.{position_or_len, position, onto_first}
use Rattle.std.specs.Option.{option_map}
use Rattle.std.proofs.lemmas.Bool.Decides.{nat_tests}
use Rattle.al_session_stream.specs.Cuts.{onto, cut_at}
use Rattle.al_session_served.specs.Lines.{words_of, by_words, line_of, WholeLine, Bad}

-- the parts on both sides of a place
abbrev pub parts_at : List ℕ → ℕ → List ℕ × List ℕ
parts_at bs i = (take i bs, drop (suc i) bs)

onto_parts : (byte b : ℕ) (bs : List ℕ) (t : Bool) (n : ℕ) → option_map (parts_at (b ∷ bs)) (cond t (Some (suc n)) None) ≡ onto b (option_map (parts_at bs) (cond t (Some n) None))
onto_parts byte b bs true n = refl
onto_parts byte b bs false n = refl

one-add : (n : ℕ) → 1 + n ≡ suc n
one-add n = omega arith

ltb-zero : (n : ℕ) → ltb 0 (suc n) ≡ true
ltb-zero n = grind (arith, nat_tests)

ltb-suc : (m n : ℕ) → ltb (suc m) (suc n) ≡ ltb m n
ltb-suc m n = grind (arith, nat_tests)

pub cut_at-position : (byte : ℕ) (bs : List ℕ) → option_map (parts_at bs) (position (λ b. eqb b byte) bs) ≡ cut_at byte bs
cut_at-position byte [] = refl
cut_at-position byte (b ∷ bs) = step (cut_at-position byte bs) (eqb b byte) refl
  where
    n : ℕ
    n = position_or_len (λ c. eqb c byte) bs

    step : option_map (parts_at bs) (position (λ c. eqb c byte) bs) ≡ cut_at byte bs → (t : Bool) → eqb b byte ≡ t → option_map (parts_at (b ∷ bs)) (position (λ c. eqb c byte) (b ∷ bs)) ≡ cut_at byte (b ∷ bs)
    step rest true e = rw e (rw (ltb-zero (length bs)) refl)
    step rest false e = rw (e, one-add, ltb-suc) (onto_parts byte b bs (ltb n (length bs)) n ∙ ap (onto b) rest)

-- the first word, and the others
abbrev pub by_cut_words : List ℕ → Option (List ℕ × List ℕ) → List (List ℕ)
by_cut_words bs None = bs ∷ []
by_cut_words bs (Some cut) = cut.0 ∷ words_of cut.1

onto_words : (b : ℕ) (bs : List ℕ) (cut : Option (List ℕ × List ℕ)) → onto_first b (by_cut_words bs cut) ≡ by_cut_words (b ∷ bs) (onto b cut)
onto_words b bs None = refl
onto_words b bs (Some cut) = refl

pub words_of-cut : (bs : List ℕ) → words_of bs ≡ by_cut_words bs (cut_at 32 bs)
words_of-cut [] = refl
words_of-cut (b ∷ bs) =
    elim (eqb b 32) as (λ t. cond t ([] ∷ words_of bs) (onto_first b (words_of bs)) ≡ by_cut_words (b ∷ bs) (cond t (Some ([], bs)) (onto b (cut_at 32 bs)))) [
      | true ↦ refl
      | false ↦ ap (onto_first b) (words_of-cut bs) ∙ onto_words b bs (cut_at 32 bs)
    ]

-- what a line of one, two, three or more words says
module _ (line : List ℕ) (short : length line ≤ 600) where
  by_its_words : line_of line ≡ by_words (words_of line)
  unfolding line_of
  by_its_words = let test : ltb 600 (length line) ≡ false = grind (arith, nat_tests) in rw test refl

  pub line_of-one : cut_at 32 line ≡ None → line_of line ≡ by_words (line ∷ [])
  line_of-one none = by_its_words ∙ ap by_words (words_of-cut line ∙ ap (by_cut_words line) none)

  module _ (verb rest : List ℕ) (first : cut_at 32 line ≡ Some (verb, rest)) where
    words_two : words_of line ≡ verb ∷ words_of rest
    words_two = words_of-cut line ∙ ap (by_cut_words line) first

    pub line_of-two : cut_at 32 rest ≡ None → line_of line ≡ by_words (verb ∷ rest ∷ [])
    line_of-two none = by_its_words ∙ ap by_words (words_two ∙ ap (λ ws. verb ∷ ws) (words_of-cut rest ∙ ap (by_cut_words rest) none))

    module _ (x y : List ℕ) (second : cut_at 32 rest ≡ Some (x, y)) where
      words_three : words_of line ≡ verb ∷ x ∷ words_of y
      words_three = words_two ∙ ap (λ ws. verb ∷ ws) (words_of-cut rest ∙ ap (by_cut_words rest) second)

      pub line_of-three : cut_at 32 y ≡ None → line_of line ≡ by_words (verb ∷ x ∷ y ∷ [])
      line_of-three none = by_its_words ∙ ap by_words (words_three ∙ ap (λ ws. verb ∷ x ∷ ws) (words_of-cut y ∙ ap (by_cut_words y) none))

      four : (third w : List ℕ) (cut : Option (List ℕ × List ℕ)) → by_words (verb ∷ x ∷ third ∷ by_cut_words w cut) ≡ WholeLine Bad
      four third w None = refl
      four third w (Some cut) = refl

      pub line_of-more : is_some (cut_at 32 y) ≡ true → line_of line ≡ WholeLine Bad
      line_of-more there = by_its_words ∙ ap by_words words_three ∙ ap (λ ws. by_words (verb ∷ x ∷ ws)) (words_of-cut y) ∙ more (cut_at 32 y) there
        where
          more : (cut : Option (List ℕ × List ℕ)) → is_some cut ≡ true → by_words (verb ∷ x ∷ by_cut_words y cut) ≡ WholeLine Bad
          more None e = cc
          more (Some cut) e = rw (words_of-cut cut.1) (four cut.0 cut.1 (cut_at 32 cut.1))
