-- What reading a rule by the next lexeme alone does, for each form of a rule.
use Rattle.std.proofs.Common.{ℕ, ◌≡◌, ◌==◌, Bool, true, false, ◌&&◌, ◌⊎◌, inl, inr, List, [], ◌∷◌, ◌++◌, length, Ok, Err, if◌then◌else◌, refl, sym, ap, ap₂, ◌∙◌, append_assoc, append-nil, length-append, eqb-true, eq-eqb, arith}
use Rattle.std.proofs.lemmas.Bool.{cond-true, cond-false, or_left}
use Rattle.std.proofs.lemmas.List.{append_cancel_right}
use Rattle.al_tree_grammar.specs.Grammar.{Label, Lexeme}
use Rattle.al_tree_grammar.specs.Grammar.Lexeme.{Fixed, Named}
use Rattle.al_tree_grammar.specs.Reading.{mem, disjoint, begins, Read, ◌>>=◌, one, any}
use Rattle.al_tree_grammar.proofs.Sets.{Starts, follows, at_end, starts_both, bind_ok, bind_err, ok_same, err_same, not_both}

-- a front of what some tree has
abbrev pub IsFront : {A : Type 0} → (A → List Lexeme) → List Lexeme → Type 0
IsFront {A} f p = (p ≡ []) ⊎ ((x : A) × (rest : List Lexeme) × (f x ≡ p ++ rest))

-- what follows the next lexeme changes nothing
pub record IsOnline (r : List Lexeme → Read) : Type 0 where
  pub ok : (p : List Lexeme) (c : Lexeme) (q s t : List Lexeme) → r (p ++ c ∷ s) ≡ Ok (q ++ c ∷ s) → r (p ++ c ∷ t) ≡ Ok (q ++ c ∷ t)
  pub err : (p : List Lexeme) (c : Lexeme) (q s t : List Lexeme) → r (p ++ c ∷ s) ≡ Err (q ++ c ∷ s) → r (p ++ c ∷ t) ≡ Err (q ++ c ∷ t)

-- r reads the trees A, whose lexemes are f, by the kinds fs that they begin with and those, ms, that would make more of them
pub record Reads (A : Type 0) (f : A → List Lexeme) (r : List Lexeme → Read) (fs ms : List ℕ) (e : Bool) : Type 0 where
  pub starts : (x : A) → Starts fs e (f x)
  pub again : (x : A) (ts : List Lexeme) → begins ms ts ≡ false → r (f x ++ ts) ≡ Ok ts
  pub unique : (x y : A) (ks ls : List Lexeme) → begins ms ks ≡ false → begins ms ls ≡ false → f x ++ ks ≡ f y ++ ls → x ≡ y
  pub found : (ts u : List Lexeme) → r ts ≡ Ok u → (x : A) × (ts ≡ f x ++ u)
  pub fault : (ts u : List Lexeme) → r ts ≡ Err u → (p : List Lexeme) × IsFront f p × (ts ≡ p ++ u)
  pub online : IsOnline r

-- ---- one lexeme

one_ok : (k : ℕ) (ts u : List Lexeme) → one k ts ≡ Ok u → ts ≡ Fixed k ∷ u
one_ok k [] u e = absurd (cc)
one_ok k (Fixed j ∷ xs) u e = go (j == k) refl e
  where
    go : (b : Bool) → (j == k) ≡ b → (if b then Ok xs else Err (Fixed j ∷ xs)) ≡ Ok u → Fixed j ∷ xs ≡ Fixed k ∷ u
    go true h e = let d : j ≡ k = eqb-true j k h in let t : xs ≡ u = cc in cc
    go false h e = absurd (cc)
one_ok k (Named j label ∷ xs) u e = absurd (cc)

one_err : (k : ℕ) (ts u : List Lexeme) → one k ts ≡ Err u → ts ≡ u
one_err k [] u e = cc
one_err k (Fixed j ∷ xs) u e = go (j == k) e
  where
    go : (b : Bool) → (if b then Ok xs else Err (Fixed j ∷ xs)) ≡ Err u → Fixed j ∷ xs ≡ u
    go true e = absurd (cc)
    go false e = cc
one_err k (Named j label ∷ xs) u e = cc

-- a lexeme that is read or refused alone
module _ (r : List Lexeme → Read) (t : Lexeme → Bool) (h : (c : Lexeme) (xs : List Lexeme) → r (c ∷ xs) ≡ (if t c then Ok xs else Err (c ∷ xs))) where
  taken : (c : Lexeme) (xs : List Lexeme) → t c ≡ true → r (c ∷ xs) ≡ Ok xs
  taken c xs k = h c xs ∙ cond-true (t c) (Ok xs) (Err (c ∷ xs)) k

  refused : (c : Lexeme) (xs : List Lexeme) → t c ≡ false → r (c ∷ xs) ≡ Err (c ∷ xs)
  refused c xs k = h c xs ∙ cond-false (t c) (Ok xs) (Err (c ∷ xs)) k

  single_ok : (p : List Lexeme) (c : Lexeme) (q s u : List Lexeme) → r (p ++ c ∷ s) ≡ Ok (q ++ c ∷ s) → r (p ++ c ∷ u) ≡ Ok (q ++ c ∷ u)
  single_ok [] c q s u e = go (t c) refl
    where
      go : (b : Bool) → t c ≡ b → r (c ∷ u) ≡ Ok (q ++ c ∷ u)
      go true k = let same = ok_same s (q ++ c ∷ s) (r (c ∷ s)) (taken c s k) e in let no : ⊥ = omega (arith, ap length same, length-append q (c ∷ s)) in absurd no
      go false k = not_both (q ++ c ∷ s) (c ∷ s) (r (c ∷ s)) e (refused c s k)
  single_ok (x ∷ p) c q s u e = go (t x) refl
    where
      go : (b : Bool) → t x ≡ b → r (x ∷ (p ++ c ∷ u)) ≡ Ok (q ++ c ∷ u)
      go true k =
          let same = ok_same (p ++ c ∷ s) (q ++ c ∷ s) (r (x ∷ (p ++ c ∷ s))) (taken x (p ++ c ∷ s) k) e in
          taken x (p ++ c ∷ u) k ∙ ap (λ (y : List Lexeme). Ok (y ++ c ∷ u)) (append_cancel_right p q (c ∷ s) same)
      go false k = not_both (q ++ c ∷ s) (x ∷ (p ++ c ∷ s)) (r (x ∷ (p ++ c ∷ s))) e (refused x (p ++ c ∷ s) k)

  single_err : (p : List Lexeme) (c : Lexeme) (q s u : List Lexeme) → r (p ++ c ∷ s) ≡ Err (q ++ c ∷ s) → r (p ++ c ∷ u) ≡ Err (q ++ c ∷ u)
  single_err [] c q s u e = go (t c) refl
    where
      go : (b : Bool) → t c ≡ b → r (c ∷ u) ≡ Err (q ++ c ∷ u)
      go true k = not_both s (q ++ c ∷ s) (r (c ∷ s)) (taken c s k) e
      go false k =
          let same = err_same (c ∷ s) (q ++ c ∷ s) (r (c ∷ s)) (refused c s k) e in
          refused c u k ∙ ap (λ (y : List Lexeme). Err (y ++ c ∷ u)) (append_cancel_right [] q (c ∷ s) same)
  single_err (x ∷ p) c q s u e = go (t x) refl
    where
      go : (b : Bool) → t x ≡ b → r (x ∷ (p ++ c ∷ u)) ≡ Err (q ++ c ∷ u)
      go true k = not_both (p ++ c ∷ s) (q ++ c ∷ s) (r (x ∷ (p ++ c ∷ s))) (taken x (p ++ c ∷ s) k) e
      go false k =
          let same = err_same (x ∷ (p ++ c ∷ s)) (q ++ c ∷ s) (r (x ∷ (p ++ c ∷ s))) (refused x (p ++ c ∷ s) k) e in
          refused x (p ++ c ∷ u) k ∙ ap (λ (y : List Lexeme). Err (y ++ c ∷ u)) (append_cancel_right (x ∷ p) q (c ∷ s) same)

  single_online : IsOnline r
  single_online = record { ok = single_ok; err = single_err }

test_fixed : ℕ → Lexeme → Bool
test_fixed k (Fixed j) = j == k
test_fixed k (Named j label) = false

test_named : ℕ → Lexeme → Bool
test_named k (Fixed j) = false
test_named k (Named j label) = j == k

one_is : (k : ℕ) (c : Lexeme) (xs : List Lexeme) → one k (c ∷ xs) ≡ (if test_fixed k c then Ok xs else Err (c ∷ xs))
unfolding test_fixed
one_is k (Fixed j) xs = refl
one_is k (Named j label) xs = refl

any_is : (k : ℕ) (c : Lexeme) (xs : List Lexeme) → any k (c ∷ xs) ≡ (if test_named k c then Ok xs else Err (c ∷ xs))
unfolding test_named
any_is k (Fixed j) xs = refl
any_is k (Named j label) xs = refl

any_ok : (k : ℕ) (ts u : List Lexeme) → any k ts ≡ Ok u → (x : Label) × (ts ≡ Named k x ∷ u)
any_ok k [] u e = absurd (cc)
any_ok k (Fixed j ∷ xs) u e = absurd (cc)
any_ok k (Named j label ∷ xs) u e = go (j == k) refl e
  where
    go : (b : Bool) → (j == k) ≡ b → (if b then Ok xs else Err (Named j label ∷ xs)) ≡ Ok u → (x : Label) × (Named j label ∷ xs ≡ Named k x ∷ u)
    go true h e = let d : j ≡ k = eqb-true j k h in let t : xs ≡ u = cc in (label, cc)
    go false h e = absurd (cc)

any_err : (k : ℕ) (ts u : List Lexeme) → any k ts ≡ Err u → ts ≡ u
any_err k [] u e = cc
any_err k (Fixed j ∷ xs) u e = cc
any_err k (Named j label ∷ xs) u e = go (j == k) e
  where
    go : (b : Bool) → (if b then Ok xs else Err (Named j label ∷ xs)) ≡ Err u → Named j label ∷ xs ≡ u
    go true e = absurd (cc)
    go false e = cc

same_kind : (k : ℕ) → mem k (k ∷ []) ≡ true
same_kind k = or_left (k == k) false (eq-eqb k k refl)

pub reads_one : (k : ℕ) → Reads (Unit {0}) (λ _. Fixed k ∷ []) (one k) (k ∷ []) [] false
reads_one k = record {
  starts = λ x. same_kind k;
  again = λ x ts h. cond-true (k == k) (Ok ts) (Err (Fixed k ∷ ts)) (eq-eqb k k refl);
  unique = λ x y ks ls h i e. refl;
  found = λ ts u e. (tt, one_ok k ts u e);
  fault = λ ts u e. ([], inl refl, one_err k ts u e);
  online = single_online (one k) (test_fixed k) (one_is k);
}

pub reads_any : (k : ℕ) → Reads Label (λ x. Named k x ∷ []) (any k) (k ∷ []) [] false
reads_any k = record {
  starts = λ x. same_kind k;
  again = λ x ts h. cond-true (k == k) (Ok ts) (Err (Named k x ∷ ts)) (eq-eqb k k refl);
  unique = λ x y ks ls h i e. cc;
  found = any_ok k;
  fault = λ ts u e. ([], inl refl, any_err k ts u e);
  online = single_online (any k) (test_named k) (any_is k);
}

-- ---- one rule after another

module _ (A B : Type 0) (f : A → List Lexeme) (g : B → List Lexeme) (r s : List Lexeme → Read) (fs gs ms ns : List ℕ) (d e : Bool) (a : Reads A f r fs ms d) (b : Reads B g s gs ns e) where
  pub both : (A × B) → List Lexeme
  both x = f x.0 ++ g x.1

  seq_again : disjoint ms gs ≡ true → (x : A × B) (ts : List Lexeme) → begins (if e then ms ++ ns else ns) ts ≡ false → (r (both x ++ ts) >>= s) ≡ Ok ts
  unfolding both
  seq_again apart x ts h =
      let one : r (both x ++ ts) ≡ Ok (g x.1 ++ ts) = ap r (append_assoc (f x.0) (g x.1) ts) ∙ a.again x.0 (g x.1 ++ ts) (follows ms gs ns e (g x.1) ts apart (b.starts x.1) h) in
      ap (λ m. m >>= s) one ∙ b.again x.1 ts (at_end ms ns e ts h)

  seq_unique : disjoint ms gs ≡ true → (x y : A × B) (ks ls : List Lexeme) → begins (if e then ms ++ ns else ns) ks ≡ false → begins (if e then ms ++ ns else ns) ls ≡ false → both x ++ ks ≡ both y ++ ls → x ≡ y
  unfolding both
  seq_unique apart x y ks ls h i q =
      let k = follows ms gs ns e (g x.1) ks apart (b.starts x.1) h in
      let l = follows ms gs ns e (g y.1) ls apart (b.starts y.1) i in
      let q' : f x.0 ++ (g x.1 ++ ks) ≡ f y.0 ++ (g y.1 ++ ls) = sym (append_assoc (f x.0) (g x.1) ks) ∙ q ∙ append_assoc (f y.0) (g y.1) ls in
      let left : x.0 ≡ y.0 = a.unique x.0 y.0 (g x.1 ++ ks) (g y.1 ++ ls) k l q' in
      let rest : g x.1 ++ ks ≡ g y.1 ++ ls = ok_same (g x.1 ++ ks) (g y.1 ++ ls) (r (f x.0 ++ (g x.1 ++ ks))) (a.again x.0 (g x.1 ++ ks) k) (ap r q' ∙ a.again y.0 (g y.1 ++ ls) l) in
      let right : x.1 ≡ y.1 = b.unique x.1 y.1 ks ls (at_end ms ns e ks h) (at_end ms ns e ls i) rest in
      ap₂ (λ u v. (u, v)) left right

  seq_found : (ts u : List Lexeme) → (r ts >>= s) ≡ Ok u → (x : A × B) × (ts ≡ both x ++ u)
  unfolding both
  seq_found ts u q =
      let p = bind_ok (r ts) s u q in
      let x = a.found ts p.0 p.1 in
      let y = b.found p.0 u p.2 in
      ((x.0, y.0), x.1 ∙ ap (λ (t : List Lexeme). f x.0 ++ t) y.1 ∙ sym (append_assoc (f x.0) (g y.0) u))

  seq_front_left : B → (p : List Lexeme) → IsFront f p → IsFront both p
  unfolding both
  seq_front_left y p (inl q) = inl q
  seq_front_left y p (inr w) = inr ((w.0, y), w.1 ++ g y, ap (λ (t : List Lexeme). t ++ g y) w.2 ∙ append_assoc p w.1 (g y))

  seq_front_right : B → (x : A) (p : List Lexeme) → IsFront g p → IsFront both (f x ++ p)
  unfolding both
  seq_front_right y x p (inl q) = inr ((x, y), g y, ap (λ (t : List Lexeme). t ++ g y) (sym (append-nil (f x)) ∙ ap (λ (t : List Lexeme). f x ++ t) (sym q)))
  seq_front_right y x p (inr w) = inr ((x, w.0), w.1, ap (λ (t : List Lexeme). f x ++ t) w.2 ∙ sym (append_assoc (f x) p w.1))

  seq_fault : B → (ts u : List Lexeme) → (r ts >>= s) ≡ Err u → (p : List Lexeme) × IsFront both p × (ts ≡ p ++ u)
  seq_fault y ts u q =
      elim (bind_err (r ts) s u q) [
        | inl h ↦ let w = a.fault ts u h in (w.0, seq_front_left y w.0 w.1, w.2)
        | inr h ↦
            let x = a.found ts h.0 h.1 in
            let w = b.fault h.0 u h.2 in
            (f x.0 ++ w.0, seq_front_right y x.0 w.0 w.1, x.1 ∙ ap (λ (t : List Lexeme). f x.0 ++ t) w.2 ∙ sym (append_assoc (f x.0) w.0 u))
      ]

  seq_online : IsOnline (λ xs. r xs >>= s)
  seq_online = record {
    ok = λ p c q t v h.
        let m = bind_ok (r (p ++ c ∷ t)) s (q ++ c ∷ t) h in
        let y = b.found m.0 (q ++ c ∷ t) m.2 in
        let at : m.0 ≡ (g y.0 ++ q) ++ c ∷ t = y.1 ∙ sym (append_assoc (g y.0) q (c ∷ t)) in
        ap (λ n. n >>= s) (a.online.ok p c (g y.0 ++ q) t v (m.1 ∙ ap (λ (z : List Lexeme). Ok z) at)) ∙ b.online.ok (g y.0 ++ q) c q t v (ap s (sym at) ∙ m.2);
    err = λ p c q t v h.
        elim (bind_err (r (p ++ c ∷ t)) s (q ++ c ∷ t) h) [
          | inl m ↦ ap (λ n. n >>= s) (a.online.err p c q t v m)
          | inr m ↦
              let y = b.fault m.0 (q ++ c ∷ t) m.2 in
              let at : m.0 ≡ (y.0 ++ q) ++ c ∷ t = y.2 ∙ sym (append_assoc y.0 q (c ∷ t)) in
              ap (λ n. n >>= s) (a.online.ok p c (y.0 ++ q) t v (m.1 ∙ ap (λ (z : List Lexeme). Ok z) at)) ∙ b.online.err (y.0 ++ q) c q t v (ap s (sym at) ∙ m.2)
        ];
  }

  pub reads_seq : disjoint ms gs ≡ true → B → Reads (A × B) (λ x. f x.0 ++ g x.1) (λ xs. r xs >>= s) (if d then fs ++ gs else fs) (if e then ms ++ ns else ns) (d && e)
  unfolding both
  reads_seq apart y = record {
    starts = λ x. starts_both fs gs d e (f x.0) (g x.1) (a.starts x.0) (b.starts x.1);
    again = seq_again apart;
    unique = seq_unique apart;
    found = seq_found;
    fault = seq_fault y;
    online = seq_online;
  }
