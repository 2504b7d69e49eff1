-- One step of a loop that reads rules after a mark, and of a rule that goes by the room.
use Rattle.std.proofs.Common.{ℕ, zero, suc, ◌<◌, ◌≡◌, true, false, ◌&&◌, not, List, [], ◌∷◌, length, Ok, Err, if◌then◌else◌, refl, ap, ◌∙◌, subst, arith}
use Rattle.std.proofs.lemmas.Bool.{and_parts, not-true, cond-true, cond-false}
use Rattle.al_tree_grammar.specs.Grammar.{Lexeme, Rule, Grammar, Tree, lexemes_of}
use Rattle.al_tree_grammar.specs.Grammar.Lexeme.{Fixed}
use Rattle.al_tree_grammar.specs.Grammar.Rule.{RoomOr, Marked}
use Rattle.al_tree_grammar.specs.Reading.{disjoint, begins, first, more, may_be_empty, is_plain, is_clear, IsClosed, Read, ◌>>=◌, one, turns, read}
use Rattle.al_tree_grammar.proofs.Language.{Reads}
use Rattle.al_tree_grammar.proofs.Repeat.{shorter}
use Rattle.al_tree_grammar.proofs.Marks.{enough}
use Rattle.al_tree_grammar.proofs.Layers.{reads}
use Rattle.al_tree_grammar.proofs.Steps.{one_here, begins_here}

module _ (k : ℕ) (fs : List ℕ) (r s : List Lexeme → Read) where
  -- after a mark
  here : (n : ℕ) (ys : List Lexeme) → turns (suc n) k fs r s (Fixed k ∷ ys) ≡ (if begins fs ys then (r ys >>= λ zs. turns n k fs r s zs) else s ys)
  unfolding turns
  here n ys =
      cond-true (begins (k ∷ []) (Fixed k ∷ ys)) (one k (Fixed k ∷ ys) >>= λ zs. if begins fs zs then (r zs >>= λ us. turns n k fs r s us) else s zs) (Ok (Fixed k ∷ ys)) (begins_here k ys)
      ∙ ap (λ (m : Read). m >>= λ zs. if begins fs zs then (r zs >>= λ us. turns n k fs r s us) else s zs) (one_here k ys)

  stops : (n : ℕ) (xs : List Lexeme) → begins (k ∷ []) xs ≡ false → turns n k fs r s xs ≡ Ok xs
  unfolding turns
  stops zero xs h = cond-false (begins (k ∷ []) xs) (Err xs) (Ok xs) h
  stops (suc n) xs h = cond-false (begins (k ∷ []) xs) (one k xs >>= λ zs. if begins fs zs then (r zs >>= λ us. turns n k fs r s us) else s zs) (Ok xs) h

module _ (g : Grammar) (closed : IsClosed g) (d k : ℕ) (a b : Rule) (clear : is_clear false (Marked k a b) ≡ true) where
  filled : (c : Rule) → is_clear false c ≡ true → may_be_empty c ≡ false → Reads (Tree g d c) (lexemes_of g d c) (read g d c) (first c) (more c) false
  filled c h e = subst (λ e. Reads (Tree g d c) (lexemes_of g d c) (read g d c) (first c) (more c) e) e (reads g closed d c h)

  -- enough marks for what is left
  left_over : (ys zs : List Lexeme) → read g d a ys ≡ Ok zs → turns (length ys) k (first a) (read g d a) (read g d b) zs ≡ turns (length zs) k (first a) (read g d a) (read g d b) zs
  left_over ys zs e =
      let p = and_parts ((is_clear false a && is_clear false b) && ((not (may_be_empty a) && not (may_be_empty b)) && disjoint (first a) (first b))) (is_plain false a && disjoint (more a) (k ∷ [])) clear in
      let q = and_parts (is_clear false a && is_clear false b) ((not (may_be_empty a) && not (may_be_empty b)) && disjoint (first a) (first b)) p.0 in
      let c = and_parts (is_clear false a) (is_clear false b) q.0 in
      let s = and_parts (not (may_be_empty a) && not (may_be_empty b)) (disjoint (first a) (first b)) q.1 in
      let t = and_parts (not (may_be_empty a)) (not (may_be_empty b)) s.0 in
      let x = filled a c.0 (not-true (may_be_empty a) t.0) in
      let y = filled b c.1 (not-true (may_be_empty b) t.1) in
      let l = shorter (Tree g d a) (lexemes_of g d a) (read g d a) (first a) (more a) x ys zs e in
      enough (Tree g d a) (Tree g d b) k (lexemes_of g d a) (lexemes_of g d b) (read g d a) (read g d b) (first a) (first b) (more a) (more b) x y (length ys) (length zs) zs (omega arith) (omega arith)

  -- one that goes on
  pub turn_goes : (xs ys zs : List Lexeme) → xs ≡ Fixed k ∷ ys → begins (first a) ys ≡ true → read g d a ys ≡ Ok zs → read g d (Marked k a b) xs ≡ read g d (Marked k a b) zs
  turn_goes xs ys zs e h q =
      ap (read g d (Marked k a b)) e
      ∙ here k (first a) (read g d a) (read g d b) (length ys) ys
      ∙ cond-true (begins (first a) ys) (read g d a ys >>= λ us. turns (length ys) k (first a) (read g d a) (read g d b) us) (read g d b ys) h
      ∙ ap (λ (m : Read). m >>= λ us. turns (length ys) k (first a) (read g d a) (read g d b) us) q
      ∙ left_over ys zs q

pub turn_fails : (g : Grammar) (d k : ℕ) (a b : Rule) (xs ys u : List Lexeme) → xs ≡ Fixed k ∷ ys → begins (first a) ys ≡ true → read g d a ys ≡ Err u → read g d (Marked k a b) xs ≡ Err u
turn_fails g d k a b xs ys u e h q =
    ap (read g d (Marked k a b)) e
    ∙ here k (first a) (read g d a) (read g d b) (length ys) ys
    ∙ cond-true (begins (first a) ys) (read g d a ys >>= λ us. turns (length ys) k (first a) (read g d a) (read g d b) us) (read g d b ys) h
    ∙ ap (λ (m : Read). m >>= λ us. turns (length ys) k (first a) (read g d a) (read g d b) us) q

-- the last one
pub turn_ends : (g : Grammar) (d k : ℕ) (a b : Rule) (xs ys : List Lexeme) → xs ≡ Fixed k ∷ ys → begins (first a) ys ≡ false → read g d (Marked k a b) xs ≡ read g d b ys
turn_ends g d k a b xs ys e h =
    ap (read g d (Marked k a b)) e
    ∙ here k (first a) (read g d a) (read g d b) (length ys) ys
    ∙ cond-false (begins (first a) ys) (read g d a ys >>= λ us. turns (length ys) k (first a) (read g d a) (read g d b) us) (read g d b ys) h

pub turns_stop : (g : Grammar) (d k : ℕ) (a b : Rule) (xs : List Lexeme) → begins (k ∷ []) xs ≡ false → read g d (Marked k a b) xs ≡ Ok xs
turns_stop g d k a b xs h = stops k (first a) (read g d a) (read g d b) (length xs) xs h

pub with_room : (g : Grammar) (d : ℕ) (a b : Rule) (xs : List Lexeme) → 0 < d → read g d (RoomOr a b) xs ≡ read g d a xs
with_room g zero a b xs h = absurd (omega arith)
with_room g (suc d) a b xs h = refl

pub without_room : (g : Grammar) (d : ℕ) (a b : Rule) (xs : List Lexeme) → d ≡ 0 → read g d (RoomOr a b) xs ≡ read g d b xs
without_room g zero a b xs h = refl
without_room g (suc d) a b xs h = absurd (omega arith)
