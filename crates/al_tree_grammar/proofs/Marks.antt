-- Reading a rule any number of times after a mark, and then perhaps another rule after it.
use Rattle.std.proofs.Common.{ℕ, zero, suc, ◌+◌, ◌≤◌, ◌<◌, ◌≡◌, Bool, true, false, ◌⊎◌, inl, inr, ⊎_elim, List, [], ◌∷◌, ◌++◌, length, Option, Some, None, Ok, Err, if◌then◌else◌, refl, sym, ap, ◌∙◌, append_assoc, length-append, arith}
use Rattle.al_tree_grammar.specs.Grammar.{Lexeme, each, either, maybe, marked, all_marked}
use Rattle.al_tree_grammar.specs.Grammar.Lexeme.{Fixed}
use Rattle.al_tree_grammar.specs.Reading.{disjoint, begins, Read, ◌>>=◌, one, turns}
use Rattle.al_tree_grammar.specs.Growing.{put_before}
use Rattle.al_tree_grammar.proofs.Sets.{Starts, begins_parts, begins_neither}
use Rattle.al_tree_grammar.proofs.Language.{IsFront, IsOnline, Reads, reads_one, reads_seq}
use Rattle.al_tree_grammar.proofs.Choice.{chosen, never, reads_alt, reads_opt}
use Rattle.al_tree_grammar.proofs.Repeat.{bind_alike, shorter}

-- with more kinds after it that it must not be followed by
module _ (A : Type 0) (f : A → List Lexeme) (r : List Lexeme → Read) (fs ms ns : List ℕ) (e : Bool) (a : Reads A f r fs ms e) (h : (ts : List Lexeme) → begins ns ts ≡ false → begins ms ts ≡ false) where
  weaker : Reads A f r fs ns e
  weaker = record {
    starts = a.starts;
    again = λ x ts i. a.again x ts (h ts i);
    unique = λ x y ks ls i j q. a.unique x y ks ls (h ks i) (h ls j) q;
    found = a.found;
    fault = a.fault;
    online = a.online;
  }

module _ (A B : Type 0) (k : ℕ) (f : A → List Lexeme) (g : B → List Lexeme) (r s : List Lexeme → Read) (fs gs ms ns : List ℕ) (a : Reads A f r fs ms false) (b : Reads B g s gs ns false) where
  -- ---- at most n marks

  abbrev Turns : ℕ → Type 0
  Turns zero = Option ⊥
  Turns (suc n) = Option (Unit {0} × ((A × Turns n) ⊎ B))

  abbrev turn_lexemes : (n : ℕ) → Turns n → List Lexeme
  turn_lexemes zero x = maybe (λ y. Fixed k ∷ absurd y) x
  turn_lexemes (suc n) x = maybe (λ y. (Fixed k ∷ []) ++ either (λ z. f z.0 ++ turn_lexemes n z.1) g y.1) x

  no_turn : (n : ℕ) → Turns n
  no_turn zero = None
  no_turn (suc n) = None

  abbrev afters : List ℕ
  afters = k ∷ (ms ++ ns)

  no_after : (ts : List Lexeme) → begins afters ts ≡ false → begins ((k ∷ []) ++ ((ms ++ afters) ++ ns)) ts ≡ false
  no_after ts h =
      let p = begins_parts (k ∷ []) (ms ++ ns) ts h in
      let q = begins_parts ms ns ts p.1 in
      begins_neither (k ∷ []) ((ms ++ afters) ++ ns) ts p.0 (begins_neither (ms ++ afters) ns ts (begins_neither ms afters ts q.0 h) q.1)

  turns_read : disjoint fs gs ≡ true → disjoint ms (k ∷ []) ≡ true → A → (n : ℕ) → Reads (Turns n) (turn_lexemes n) (turns n k fs r s) (k ∷ []) afters true
  unfolding turns
  turns_read apart ended x zero = weaker (Option ⊥) (maybe (λ y. Fixed k ∷ absurd y)) (chosen (k ∷ []) (λ xs. Err xs) (λ xs. Ok xs)) (k ∷ []) ((k ∷ []) ++ []) afters true (reads_opt ⊥ (λ y. Fixed k ∷ absurd y) (λ xs. Err xs) (k ∷ []) [] (never k)) (λ ts h. (begins_parts (k ∷ []) (ms ++ ns) ts h).0)
  turns_read apart ended x (suc n) =
      let t = turns_read apart ended x n in
      let goes = reads_seq A (Turns n) f (turn_lexemes n) r (turns n k fs r s) fs (k ∷ []) ms afters false true a t ended (no_turn n) in
      let first_or_last = reads_alt (A × Turns n) B (λ z. f z.0 ++ turn_lexemes n z.1) g (λ xs. r xs >>= turns n k fs r s) s fs gs (ms ++ afters) ns goes b apart in
      let after = reads_seq (Unit {0}) ((A × Turns n) ⊎ B) (λ _. Fixed k ∷ []) (either (λ z. f z.0 ++ turn_lexemes n z.1) g) (one k) (chosen fs (λ xs. r xs >>= turns n k fs r s) s) (k ∷ []) (fs ++ gs) [] ((ms ++ afters) ++ ns) false false (reads_one k) first_or_last refl (inl (x, no_turn n)) in
      weaker (Turns (suc n)) (turn_lexemes (suc n)) (turns (suc n) k fs r s) (k ∷ []) ((k ∷ []) ++ ((ms ++ afters) ++ ns)) afters true
      (reads_opt (Unit {0} × ((A × Turns n) ⊎ B)) (λ y. (Fixed k ∷ []) ++ either (λ z. f z.0 ++ turn_lexemes n z.1) g y.1) (λ xs. one k xs >>= chosen fs (λ ys. r ys >>= turns n k fs r s) s) (k ∷ []) ((ms ++ afters) ++ ns) after) no_after

  -- ---- as lists with perhaps a last one

  abbrev perhaps : {C : Type 0} → (C → List A × Option B) → Option C → List A × Option B
  perhaps w None = ([], None)
  perhaps w (Some c) = w c

  abbrev turned : {T : Type 0} → (T → List A × Option B) → (A × T) ⊎ B → List A × Option B
  turned w (inl z) = put_before z.0 (w z.1)
  turned w (inr y) = ([], Some y)

  abbrev whole : (n : ℕ) → Turns n → List A × Option B
  whole zero t = perhaps (λ y. absurd y) t
  whole (suc n) t = perhaps (λ y. turned (whole n) y.1) t

  turned_lexemes : (n : ℕ) → ((t : Turns n) → turn_lexemes n t ≡ all_marked k f g (whole n t)) → (z : (A × Turns n) ⊎ B) → (Fixed k ∷ []) ++ either (λ z. f z.0 ++ turn_lexemes n z.1) g z ≡ all_marked k f g (turned (whole n) z)
  turned_lexemes n h (inl z) =
      ap (λ (t : List Lexeme). Fixed k ∷ (f z.0 ++ t)) (h z.1) ∙ sym (append_assoc (Fixed k ∷ f z.0) (each (marked k f) (whole n z.1).0) (maybe (marked k g) (whole n z.1).1))
  turned_lexemes n h (inr y) = refl

  same_lexemes : (n : ℕ) (t : Turns n) → turn_lexemes n t ≡ all_marked k f g (whole n t)
  same_lexemes zero None = refl
  same_lexemes zero (Some x) = absurd x
  same_lexemes (suc n) None = refl
  same_lexemes (suc n) (Some y) = turned_lexemes n (same_lexemes n) y.1

  made : (n : ℕ) (l : List A) (o : Option B) → length l < n → (t : Turns n) × (whole n t ≡ (l, o))
  made zero l o h = absurd (omega arith)
  made (suc n) [] None h = (None, refl)
  made (suc n) [] (Some y) h = (Some (tt, inr y), refl)
  made (suc n) (x ∷ l) o h = let m = made n l o (omega arith) in (Some (tt, inl (x, m.0)), ap (λ (w : List A × Option B). put_before x w) m.1)

  each_length : (l : List A) → length l ≤ length (each (marked k f) l)
  each_length [] = omega arith
  each_length (x ∷ l) = omega (arith, each_length l, length-append (Fixed k ∷ f x) (each (marked k f) l))

  marks_length : (y : List A × Option B) → length y.0 ≤ length (all_marked k f g y)
  marks_length y = omega (arith, each_length y.0, length-append (each (marked k f) y.0) (maybe (marked k g) y.1))

  -- the same, as one of those with at most n marks
  as_turns : (n : ℕ) (y : List A × Option B) → length (all_marked k f g y) < n → (t : Turns n) × (whole n t ≡ y) × (turn_lexemes n t ≡ all_marked k f g y)
  as_turns n y h =
      let m = made n y.0 y.1 (omega (arith, marks_length y)) in
      (m.0, m.1, same_lexemes n m.0 ∙ ap (all_marked k f g) m.1)

  -- how many marks may be read is no matter, where these are enough
  pub enough : (n m : ℕ) (ts : List Lexeme) → length ts ≤ n → length ts ≤ m → turns n k fs r s ts ≡ turns m k fs r s ts
  unfolding turns
  enough zero zero ts h i = refl
  enough zero (suc m) [] h i = refl
  enough zero (suc m) (t ∷ ts) h i = absurd (omega arith)
  enough (suc n) zero [] h i = refl
  enough (suc n) zero (t ∷ ts) h i = absurd (omega arith)
  enough (suc n) (suc m) ts h i =
      ap (λ (v : Read). if begins (k ∷ []) ts then v else Ok ts)
      (bind_alike (one k ts) (λ ys. if begins fs ys then (r ys >>= λ zs. turns n k fs r s zs) else s ys) (λ ys. if begins fs ys then (r ys >>= λ zs. turns m k fs r s zs) else s ys)
      (λ ys e. ap (λ (v : Read). if begins fs ys then v else s ys)
      (bind_alike (r ys) (λ zs. turns n k fs r s zs) (λ zs. turns m k fs r s zs)
      (λ zs d.
      let l = shorter (Unit {0}) (λ _. Fixed k ∷ []) (one k) (k ∷ []) [] (reads_one k) ts ys e in
      let o = shorter A f r fs ms a ys zs d in
      enough n m zs (omega arith) (omega arith)))))

  pub marks : List Lexeme → Read
  marks ts = turns (length ts) k fs r s ts

  marks_as : (n : ℕ) (ts : List Lexeme) → length ts ≤ n → marks ts ≡ turns n k fs r s ts
  unfolding marks
  marks_as n ts h = enough (length ts) n ts (omega arith) h

  marks_starts : (y : List A × Option B) → Starts (k ∷ []) true (all_marked k f g y)
  marks_starts y = go y.0 y.1
    where
      go : (l : List A) (o : Option B) → Starts (k ∷ []) true (all_marked k f g (l, o))
      go [] None = refl
      go [] (Some z) = (reads_one k).starts tt
      go (x ∷ l) o = (reads_one k).starts tt

  module _ (apart : disjoint fs gs ≡ true) (ended : disjoint ms (k ∷ []) ≡ true) (some : A) where
    marks_again : (y : List A × Option B) (ts : List Lexeme) → begins afters ts ≡ false → marks (all_marked k f g y ++ ts) ≡ Ok ts
    marks_again y ts h =
        let n : ℕ = suc (length (all_marked k f g y ++ ts)) in
        let t = as_turns n y (omega (arith, length-append (all_marked k f g y) ts)) in
        marks_as n (all_marked k f g y ++ ts) (omega arith) ∙ ap (λ (v : List Lexeme). turns n k fs r s (v ++ ts)) (sym t.2) ∙ (turns_read apart ended some n).again t.0 ts h

    marks_unique : (y z : List A × Option B) (ks ls : List Lexeme) → begins afters ks ≡ false → begins afters ls ≡ false → all_marked k f g y ++ ks ≡ all_marked k f g z ++ ls → y ≡ z
    marks_unique y z ks ls h i q =
        let n : ℕ = suc (length (all_marked k f g y) + length (all_marked k f g z)) in
        let t = as_turns n y (omega arith) in
        let u = as_turns n z (omega arith) in
        let e : turn_lexemes n t.0 ++ ks ≡ turn_lexemes n u.0 ++ ls = ap (λ (v : List Lexeme). v ++ ks) t.2 ∙ q ∙ ap (λ (v : List Lexeme). v ++ ls) (sym u.2) in
        sym t.1 ∙ ap (whole n) ((turns_read apart ended some n).unique t.0 u.0 ks ls h i e) ∙ u.1

    turns_found : (n : ℕ) (ts u : List Lexeme) → turns n k fs r s ts ≡ Ok u → (y : List A × Option B) × (ts ≡ all_marked k f g y ++ u)
    turns_found n ts u h =
        let t = (turns_read apart ended some n).found ts u h in
        (whole n t.0, t.1 ∙ ap (λ (v : List Lexeme). v ++ u) (same_lexemes n t.0))

    turns_fault : (n : ℕ) (ts u : List Lexeme) → turns n k fs r s ts ≡ Err u → (p : List Lexeme) × IsFront (all_marked k f g) p × (ts ≡ p ++ u)
    turns_fault n ts u h =
        let t = (turns_read apart ended some n).fault ts u h in
        (t.0, ⊎_elim (λ q. inl q) (λ w. inr (whole n w.0, w.1, sym (same_lexemes n w.0) ∙ w.2)) t.1, t.2)

    marks_online : IsOnline marks
    marks_online = record {
      ok = λ p c q t u h.
          let n : ℕ = length (p ++ c ∷ t) + length (p ++ c ∷ u) in
          marks_as n (p ++ c ∷ u) (omega arith) ∙ (turns_read apart ended some n).online.ok p c q t u (sym (marks_as n (p ++ c ∷ t) (omega arith)) ∙ h);
      err = λ p c q t u h.
          let n : ℕ = length (p ++ c ∷ t) + length (p ++ c ∷ u) in
          marks_as n (p ++ c ∷ u) (omega arith) ∙ (turns_read apart ended some n).online.err p c q t u (sym (marks_as n (p ++ c ∷ t) (omega arith)) ∙ h);
    }

    pub reads_marked : Reads (List A × Option B) (all_marked k f g) (λ xs. turns (length xs) k fs r s xs) (k ∷ []) (k ∷ (ms ++ ns)) true
    unfolding marks
    reads_marked = record {
      starts = marks_starts;
      again = marks_again;
      unique = marks_unique;
      found = λ ts u h. turns_found (length ts) ts u h;
      fault = λ ts u h. turns_fault (length ts) ts u h;
      online = marks_online;
    }
