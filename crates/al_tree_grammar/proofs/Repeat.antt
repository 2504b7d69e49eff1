-- Reading a rule any number of times.
use Rattle.std.proofs.Common.{ℕ, zero, suc, ◌+◌, ◌≤◌, ◌<◌, ◌≡◌, Bool, true, false, inl, inr, List, [], ◌∷◌, ◌++◌, length, Ok, Err, refl, sym, ap, ap₂, ◌∙◌, append_assoc, append-nil, length-append, arith}
use Rattle.std.proofs.lemmas.Bool.{both_ways, cond-true, cond-false}
use Rattle.al_tree_grammar.specs.Grammar.{Lexeme, each}
use Rattle.al_tree_grammar.specs.Reading.{disjoint, begins, Read, ◌>>=◌, times}
use Rattle.al_tree_grammar.proofs.Sets.{begins_parts, Starts, begins_same, starts_begins, starts_not, bind_ok, bind_err, ok_same}
use Rattle.al_tree_grammar.proofs.Language.{IsFront, IsOnline, Reads}
use Rattle.al_tree_grammar.proofs.Choice.{stays_online}

pub bind_alike : (m : Read) (f g : List Lexeme → Read) → ((y : List Lexeme) → m ≡ Ok y → f y ≡ g y) → (m >>= f) ≡ (m >>= g)
bind_alike (Ok y) f g h = h y refl
bind_alike (Err y) f g h = refl

not_empty : (s : List ℕ) (xs : List Lexeme) → Starts s false xs → 1 ≤ length xs
not_empty s [] h = absurd (cc)
not_empty s (x ∷ xs) h = omega arith

starts_append : (s : List ℕ) (xs ys : List Lexeme) → Starts s false xs → Starts s true (xs ++ ys)
starts_append s [] ys h = absurd (cc)
starts_append s (x ∷ xs) ys h = h

module _ (fs : List ℕ) (r : List Lexeme → Read) where
  pub once_more : (n : ℕ) (ts : List Lexeme) → begins fs ts ≡ true → times (suc n) fs r ts ≡ (r ts >>= λ ys. times n fs r ys)
  unfolding times
  once_more n ts h = cond-true (begins fs ts) (r ts >>= λ ys. times n fs r ys) (Ok ts) h

  pub no_more : (n : ℕ) (ts : List Lexeme) → begins fs ts ≡ false → times n fs r ts ≡ Ok ts
  unfolding times
  no_more zero ts h = refl
  no_more (suc n) ts h = cond-false (begins fs ts) (r ts >>= λ ys. times n fs r ys) (Ok ts) h

module _ (A : Type 0) (f : A → List Lexeme) (r : List Lexeme → Read) (fs ms : List ℕ) (a : Reads A f r fs ms false) where
  pub shorter : (ts u : List Lexeme) → r ts ≡ Ok u → length u < length ts
  shorter ts u h =
      let x = a.found ts u h in
      omega (arith, not_empty fs (f x.0) (a.starts x.0), ap length x.1, length-append (f x.0) u)

  -- how often it may be is no matter, where that is enough
  pub enough : (n m : ℕ) (ts : List Lexeme) → length ts ≤ n → length ts ≤ m → times n fs r ts ≡ times m fs r ts
  enough zero m [] h k = no_more fs r zero [] refl ∙ sym (no_more fs r m [] refl)
  enough zero m (t ∷ ts) h k = absurd (omega arith)
  enough (suc n) zero [] h k = no_more fs r (suc n) [] refl ∙ sym (no_more fs r zero [] refl)
  enough (suc n) zero (t ∷ ts) h k = absurd (omega arith)
  enough (suc n) (suc m) ts h k = go (enough n m) (begins fs ts) refl
    where
      go : ((y : List Lexeme) → length y ≤ n → length y ≤ m → times n fs r y ≡ times m fs r y) → (b : Bool) → begins fs ts ≡ b → times (suc n) fs r ts ≡ times (suc m) fs r ts
      go more true w = once_more fs r n ts w ∙ bind_alike (r ts) (λ ys. times n fs r ys) (λ ys. times m fs r ys) (λ y e. let l = shorter ts y e in more y (omega arith) (omega arith)) ∙ sym (once_more fs r m ts w)
      go more false w = no_more fs r (suc n) ts w ∙ sym (no_more fs r (suc m) ts w)

  times_found : (n : ℕ) (ts u : List Lexeme) → times n fs r ts ≡ Ok u → (x : List A) × (ts ≡ each f x ++ u)
  unfolding times
  times_found zero ts u h = ([], cc)
  times_found (suc n) ts u h = go (times_found n) (begins fs ts) refl
    where
      go : ((ts u : List Lexeme) → times n fs r ts ≡ Ok u → (x : List A) × (ts ≡ each f x ++ u)) → (b : Bool) → begins fs ts ≡ b → (x : List A) × (ts ≡ each f x ++ u)
      go more true w =
          let p = bind_ok (r ts) (λ ys. times n fs r ys) u (sym (once_more fs r n ts w) ∙ h) in
          let x = a.found ts p.0 p.1 in
          let xs = more p.0 u p.2 in
          (x.0 ∷ xs.0, x.1 ∙ ap (λ (t : List Lexeme). f x.0 ++ t) xs.1 ∙ sym (append_assoc (f x.0) (each f xs.0) u))
      go more false w = let m = sym (no_more fs r (suc n) ts w) ∙ h in ([], cc)

  front_one : (p : List Lexeme) → IsFront f p → IsFront (each f) p
  front_one p (inl q) = inl q
  front_one p (inr w) = inr (w.0 ∷ [], w.1, append-nil (f w.0) ∙ w.2)

  front_next : (x : A) (p : List Lexeme) → IsFront (each f) p → IsFront (each f) (f x ++ p)
  front_next x p (inl q) = inr (x ∷ [], [], ap (λ (t : List Lexeme). f x ++ t) (sym q) ∙ sym (append-nil (f x ++ p)))
  front_next x p (inr w) = inr (x ∷ w.0, w.1, ap (λ (t : List Lexeme). f x ++ t) w.2 ∙ sym (append_assoc (f x) p w.1))

  times_fault : (n : ℕ) (ts u : List Lexeme) → times n fs r ts ≡ Err u → (p : List Lexeme) × IsFront (each f) p × (ts ≡ p ++ u)
  unfolding times
  times_fault zero ts u h = absurd (cc)
  times_fault (suc n) ts u h = go (times_fault n) (begins fs ts) refl
    where
      go : ((ts u : List Lexeme) → times n fs r ts ≡ Err u → (p : List Lexeme) × IsFront (each f) p × (ts ≡ p ++ u)) → (b : Bool) → begins fs ts ≡ b → (p : List Lexeme) × IsFront (each f) p × (ts ≡ p ++ u)
      go more true w =
          elim (bind_err (r ts) (λ ys. times n fs r ys) u (sym (once_more fs r n ts w) ∙ h)) [
            | inl e ↦ let x = a.fault ts u e in (x.0, front_one x.0 x.1, x.2)
            | inr e ↦
                let x = a.found ts e.0 e.1 in
                let xs = more e.0 u e.2 in
                (f x.0 ++ xs.0, front_next x.0 xs.0 xs.1, x.1 ∙ ap (λ (t : List Lexeme). f x.0 ++ t) xs.2 ∙ sym (append_assoc (f x.0) xs.0 u))
          ]
      go more false w = let m = sym (no_more fs r (suc n) ts w) ∙ h in absurd (cc)

  times_ok : (n : ℕ) (p : List Lexeme) (c : Lexeme) (q t u : List Lexeme) → times n fs r (p ++ c ∷ t) ≡ Ok (q ++ c ∷ t) → times n fs r (p ++ c ∷ u) ≡ Ok (q ++ c ∷ u)
  unfolding times
  times_ok zero p c q t u h = stays_online.ok p c q t u h
  times_ok (suc n) p c q t u h = go (times_ok n) (begins fs (p ++ c ∷ t)) refl
    where
      go : ((p : List Lexeme) (c : Lexeme) (q t u : List Lexeme) → times n fs r (p ++ c ∷ t) ≡ Ok (q ++ c ∷ t) → times n fs r (p ++ c ∷ u) ≡ Ok (q ++ c ∷ u)) → (b : Bool) → begins fs (p ++ c ∷ t) ≡ b → times (suc n) fs r (p ++ c ∷ u) ≡ Ok (q ++ c ∷ u)
      go more true w =
          let m = bind_ok (r (p ++ c ∷ t)) (λ ys. times n fs r ys) (q ++ c ∷ t) (sym (once_more fs r n (p ++ c ∷ t) w) ∙ h) in
          let xs = times_found n m.0 (q ++ c ∷ t) m.2 in
          let at : m.0 ≡ (each f xs.0 ++ q) ++ c ∷ t = xs.1 ∙ sym (append_assoc (each f xs.0) q (c ∷ t)) in
          once_more fs r n (p ++ c ∷ u) (begins_same fs p c u t ∙ w)
          ∙ ap (λ v. v >>= λ ys. times n fs r ys) (a.online.ok p c (each f xs.0 ++ q) t u (m.1 ∙ ap (λ (z : List Lexeme). Ok z) at))
          ∙ more (each f xs.0 ++ q) c q t u (ap (times n fs r) (sym at) ∙ m.2)
      go more false w =
          no_more fs r (suc n) (p ++ c ∷ u) (begins_same fs p c u t ∙ w) ∙ stays_online.ok p c q t u (sym (no_more fs r (suc n) (p ++ c ∷ t) w) ∙ h)

  times_err : (n : ℕ) (p : List Lexeme) (c : Lexeme) (q t u : List Lexeme) → times n fs r (p ++ c ∷ t) ≡ Err (q ++ c ∷ t) → times n fs r (p ++ c ∷ u) ≡ Err (q ++ c ∷ u)
  unfolding times
  times_err zero p c q t u h = absurd (cc)
  times_err (suc n) p c q t u h = go (times_err n) (begins fs (p ++ c ∷ t)) refl
    where
      go : ((p : List Lexeme) (c : Lexeme) (q t u : List Lexeme) → times n fs r (p ++ c ∷ t) ≡ Err (q ++ c ∷ t) → times n fs r (p ++ c ∷ u) ≡ Err (q ++ c ∷ u)) → (b : Bool) → begins fs (p ++ c ∷ t) ≡ b → times (suc n) fs r (p ++ c ∷ u) ≡ Err (q ++ c ∷ u)
      go more true w =
          once_more fs r n (p ++ c ∷ u) (begins_same fs p c u t ∙ w) ∙
          elim (bind_err (r (p ++ c ∷ t)) (λ ys. times n fs r ys) (q ++ c ∷ t) (sym (once_more fs r n (p ++ c ∷ t) w) ∙ h)) [
            | inl e ↦ ap (λ v. v >>= λ ys. times n fs r ys) (a.online.err p c q t u e)
            | inr m ↦
                let xs = times_fault n m.0 (q ++ c ∷ t) m.2 in
                let at : m.0 ≡ (xs.0 ++ q) ++ c ∷ t = xs.2 ∙ sym (append_assoc xs.0 q (c ∷ t)) in
                ap (λ v. v >>= λ ys. times n fs r ys) (a.online.ok p c (xs.0 ++ q) t u (m.1 ∙ ap (λ (z : List Lexeme). Ok z) at))
                ∙ more (xs.0 ++ q) c q t u (ap (times n fs r) (sym at) ∙ m.2)
          ]
      go more false w = let m = sym (no_more fs r (suc n) (p ++ c ∷ t) w) ∙ h in absurd (cc)

  -- after one the next one, or what may follow them all
  next : disjoint ms fs ≡ true → (xs : List A) (ts : List Lexeme) → begins (fs ++ ms) ts ≡ false → begins ms (each f xs ++ ts) ≡ false
  next apart [] ts h = (begins_parts fs ms ts h).1
  next apart (x ∷ xs) ts h = ap (begins ms) (append_assoc (f x) (each f xs) ts) ∙ starts_not ms fs (f x) (each f xs ++ ts) apart (a.starts x)

  times_again : disjoint ms fs ≡ true → (n : ℕ) (xs : List A) (ts : List Lexeme) → length xs ≤ n → begins (fs ++ ms) ts ≡ false → times n fs r (each f xs ++ ts) ≡ Ok ts
  times_again apart n [] ts l h = no_more fs r n ts (begins_parts fs ms ts h).0
  times_again apart zero (x ∷ xs) ts l h = absurd (omega arith)
  times_again apart (suc n) (x ∷ xs) ts l h =
      ap (times (suc n) fs r) (append_assoc (f x) (each f xs) ts)
      ∙ once_more fs r n (f x ++ (each f xs ++ ts)) (starts_begins fs (f x) (each f xs ++ ts) (a.starts x))
      ∙ ap (λ v. v >>= λ ys. times n fs r ys) (a.again x (each f xs ++ ts) (next apart xs ts h))
      ∙ times_again apart n xs ts (omega arith) h

  each_length : (xs : List A) → length xs ≤ length (each f xs)
  each_length [] = omega arith
  each_length (x ∷ xs) = omega (arith, each_length xs, not_empty fs (f x) (a.starts x), length-append (f x) (each f xs))

  pub many : List Lexeme → Read
  many ts = times (length ts) fs r ts

  many_again : disjoint ms fs ≡ true → (xs : List A) (ts : List Lexeme) → begins (fs ++ ms) ts ≡ false → many (each f xs ++ ts) ≡ Ok ts
  unfolding many
  many_again apart xs ts h = times_again apart (length (each f xs ++ ts)) xs ts (omega (arith, each_length xs, length-append (each f xs) ts)) h

  many_unique : disjoint ms fs ≡ true → (xs ys : List A) (ks ls : List Lexeme) → begins (fs ++ ms) ks ≡ false → begins (fs ++ ms) ls ≡ false → each f xs ++ ks ≡ each f ys ++ ls → xs ≡ ys
  many_unique apart [] [] ks ls h i q = refl
  many_unique apart [] (y ∷ ys) ks ls h i q =
      absurd (both_ways (begins fs ks) (begins_parts fs ms ks h).0 (ap (begins fs) (q ∙ append_assoc (f y) (each f ys) ls) ∙ starts_begins fs (f y) (each f ys ++ ls) (a.starts y)))
  many_unique apart (x ∷ xs) [] ks ls h i q =
      absurd (both_ways (begins fs ls) (begins_parts fs ms ls i).0 (ap (begins fs) (sym q ∙ append_assoc (f x) (each f xs) ks) ∙ starts_begins fs (f x) (each f xs ++ ks) (a.starts x)))
  many_unique apart (x ∷ xs) (y ∷ ys) ks ls h i q =
      let q' : f x ++ (each f xs ++ ks) ≡ f y ++ (each f ys ++ ls) = sym (append_assoc (f x) (each f xs) ks) ∙ q ∙ append_assoc (f y) (each f ys) ls in
      let k = next apart xs ks h in
      let l = next apart ys ls i in
      let rest : each f xs ++ ks ≡ each f ys ++ ls = ok_same (each f xs ++ ks) (each f ys ++ ls) (r (f x ++ (each f xs ++ ks))) (a.again x (each f xs ++ ks) k) (ap r q' ∙ a.again y (each f ys ++ ls) l) in
      ap₂ (λ u v. u ∷ v) (a.unique x y (each f xs ++ ks) (each f ys ++ ls) k l q') (many_unique apart xs ys ks ls h i rest)

  many_starts : (xs : List A) → Starts fs true (each f xs)
  many_starts [] = refl
  many_starts (x ∷ xs) = starts_append fs (f x) (each f xs) (a.starts x)

  -- enough for two lists
  many_as : (n : ℕ) (ts : List Lexeme) → length ts ≤ n → many ts ≡ times n fs r ts
  unfolding many
  many_as n ts h = enough (length ts) n ts (omega arith) h

  many_online : IsOnline many
  many_online = record {
    ok = λ p c q t u h.
        let n : ℕ = length (p ++ c ∷ t) + length (p ++ c ∷ u) in
        many_as n (p ++ c ∷ u) (omega arith) ∙ times_ok n p c q t u (sym (many_as n (p ++ c ∷ t) (omega arith)) ∙ h);
    err = λ p c q t u h.
        let n : ℕ = length (p ++ c ∷ t) + length (p ++ c ∷ u) in
        many_as n (p ++ c ∷ u) (omega arith) ∙ times_err n p c q t u (sym (many_as n (p ++ c ∷ t) (omega arith)) ∙ h);
  }

  pub reads_many : disjoint ms fs ≡ true → Reads (List A) (each f) (λ xs. times (length xs) fs r xs) fs (fs ++ ms) true
  unfolding many
  reads_many apart = record {
    starts = many_starts;
    again = many_again apart;
    unique = many_unique apart;
    found = λ ts u h. times_found (length ts) ts u h;
    fault = λ ts u h. times_fault (length ts) ts u h;
    online = many_online;
  }
