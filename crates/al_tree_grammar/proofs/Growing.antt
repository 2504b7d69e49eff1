-- The reader that gives a tree reads as the one that gives only what is left.
use Rattle.std.proofs.Common.{ℕ, zero, suc, ◌≡◌, ◌==◌, Bool, true, false, List, [], ◌∷◌, ◌++◌, length, Option, Some, None, Ok, Err, ◌⊎◌, inl, inr, if◌then◌else◌, refl, sym, ap, ap₂, ◌∙◌, append_assoc, eqb-true}
use Rattle.std.proofs.lemmas.Bool.{cond-true, cond-false}
use Rattle.al_tree_grammar.specs.Grammar.{Label, Lexeme, Rule, Grammar, each, either, maybe, marked, all_marked, has_room, Within, within, ByRoom, by_room, Layer, Construct, Tree, layer_lexemes, construct_lexemes, lexemes_of}
use Rattle.al_tree_grammar.specs.Grammar.Lexeme.{Fixed, Named}
use Rattle.al_tree_grammar.specs.Grammar.Rule.{One, Any, Seq, Alt, Opt, Many, Nest, Begun, Room, RoomOr, Marked}
use Rattle.al_tree_grammar.specs.Reading.{begins, first, Read, ◌>>=◌, one, any, times, turns, layer_read, construct_read, read}
use Rattle.al_tree_grammar.specs.Growing.{Grown, remade, grow_on, grow_one, grow_any, grow_times, put_before, grow_turns, grow_within, grow_by_room, layer_grow, construct_grow, grow}
use Rattle.al_tree_grammar.proofs.Sets.{bind_ok, bind_err, ok_same, not_both}
use Rattle.al_tree_grammar.proofs.Repeat.{once_more, no_more}

-- w gives trees as r reads, and their lexemes are what was read
pub record Grows (A : Type 0) (f : A → List Lexeme) (r : List Lexeme → Read) (w : List Lexeme → Grown A) : Type 0 where
  pub found : (ts u : List Lexeme) → r ts ≡ Ok u → (x : A) × (ts ≡ f x ++ u) × (w ts ≡ Some (x, u))
  pub fault : (ts u : List Lexeme) → r ts ≡ Err u → w ts ≡ None

-- ---- one lexeme

if_some : (b : Bool) (xs t u : List Lexeme) → (if b then Ok xs else Err t) ≡ Ok u → (b ≡ true) × (xs ≡ u)
if_some true xs t u e = (refl, cc)
if_some false xs t u e = absurd (cc)

if_none : (b : Bool) (xs t u : List Lexeme) → (if b then Ok xs else Err t) ≡ Err u → b ≡ false
if_none true xs t u e = absurd (cc)
if_none false xs t u e = refl

one_found : (k : ℕ) (ts u : List Lexeme) → one k ts ≡ Ok u → (x : Unit {0}) × (ts ≡ (Fixed k ∷ []) ++ u) × (grow_one k ts ≡ Some (x, u))
one_found k [] u e = absurd (cc)
one_found k (Fixed j ∷ xs) u e =
    let p = if_some (j == k) xs (Fixed j ∷ xs) u e in
    (tt, ap₂ (λ (i : ℕ) (v : List Lexeme). Fixed i ∷ v) (eqb-true j k p.0) p.1, cond-true (j == k) (Some (tt, xs)) None p.0 ∙ ap (λ (v : List Lexeme). Some (tt, v)) p.1)
one_found k (Named j label ∷ xs) u e = absurd (cc)

one_fault : (k : ℕ) (ts u : List Lexeme) → one k ts ≡ Err u → grow_one k ts ≡ None
one_fault k [] u e = refl
one_fault k (Fixed j ∷ xs) u e = cond-false (j == k) (Some (tt, xs)) None (if_none (j == k) xs (Fixed j ∷ xs) u e)
one_fault k (Named j label ∷ xs) u e = refl

any_found : (k : ℕ) (ts u : List Lexeme) → any k ts ≡ Ok u → (x : Label) × (ts ≡ (Named k x ∷ []) ++ u) × (grow_any k ts ≡ Some (x, u))
any_found k [] u e = absurd (cc)
any_found k (Fixed j ∷ xs) u e = absurd (cc)
any_found k (Named j label ∷ xs) u e =
    let p = if_some (j == k) xs (Named j label ∷ xs) u e in
    (label, ap₂ (λ (i : ℕ) (v : List Lexeme). Named i label ∷ v) (eqb-true j k p.0) p.1, cond-true (j == k) (Some (label, xs)) None p.0 ∙ ap (λ (v : List Lexeme). Some (label, v)) p.1)

any_fault : (k : ℕ) (ts u : List Lexeme) → any k ts ≡ Err u → grow_any k ts ≡ None
any_fault k [] u e = refl
any_fault k (Fixed j ∷ xs) u e = refl
any_fault k (Named j label ∷ xs) u e = cond-false (j == k) (Some (label, xs)) None (if_none (j == k) xs (Named j label ∷ xs) u e)

-- ---- one after the other

module _ (A B : Type 0) (f : A → List Lexeme) (h : B → List Lexeme) (r s : List Lexeme → Read) (v : List Lexeme → Grown A) (w : List Lexeme → Grown B) (a : Grows A f r v) (b : Grows B h s w) where
  pub grows_seq : Grows (A × B) (λ x. f x.0 ++ h x.1) (λ xs. r xs >>= s) (λ xs. grow_on (v xs) (λ x ys. remade (λ y. (x, y)) (w ys)))
  grows_seq = record {
    found = λ ts u q.
        let p = bind_ok (r ts) s u q in
        let x = a.found ts p.0 p.1 in
        let y = b.found p.0 u p.2 in (
          (x.0, y.0),
          x.1 ∙ ap (λ (t : List Lexeme). f x.0 ++ t) y.1 ∙ sym (append_assoc (f x.0) (h y.0) u),
          ap (λ (m : Grown A). grow_on m (λ x ys. remade (λ y. (x, y)) (w ys))) x.2 ∙ ap (λ (m : Grown B). remade (λ y. (x.0, y)) m) y.2,
        );
    fault = λ ts u q.
        elim (bind_err (r ts) s u q) [
          | inl e ↦ ap (λ (m : Grown A). grow_on m (λ x ys. remade (λ y. (x, y)) (w ys))) (a.fault ts u e)
          | inr e ↦
              let x = a.found ts e.0 e.1 in
              ap (λ (m : Grown A). grow_on m (λ x ys. remade (λ y. (x, y)) (w ys))) x.2 ∙ ap (λ (m : Grown B). remade (λ y. (x.0, y)) m) (b.fault e.0 u e.2)
        ];
  }

-- ---- one or the other

module _ (A B : Type 0) (f : A → List Lexeme) (h : B → List Lexeme) (r s : List Lexeme → Read) (v : List Lexeme → Grown A) (w : List Lexeme → Grown B) (a : Grows A f r v) (b : Grows B h s w) (fs : List ℕ) where
  alt_grow : List Lexeme → Grown (A ⊎ B)
  alt_grow xs = if begins fs xs then remade (λ x. inl x) (v xs) else remade (λ x. inr x) (w xs)

  alt_found : (ts u : List Lexeme) (c : Bool) → begins fs ts ≡ c → (if begins fs ts then r ts else s ts) ≡ Ok u → (x : A ⊎ B) × (ts ≡ either f h x ++ u) × (alt_grow ts ≡ Some (x, u))
  unfolding alt_grow
  alt_found ts u true e q =
      let x = a.found ts u (sym (cond-true (begins fs ts) (r ts) (s ts) e) ∙ q) in
      (inl x.0, x.1, cond-true (begins fs ts) (remade (λ x. inl x) (v ts)) (remade (λ x. inr x) (w ts)) e ∙ ap (λ (m : Grown A). remade {A = A} {B = A ⊎ B} (λ x. inl x) m) x.2)
  alt_found ts u false e q =
      let x = b.found ts u (sym (cond-false (begins fs ts) (r ts) (s ts) e) ∙ q) in
      (inr x.0, x.1, cond-false (begins fs ts) (remade (λ x. inl x) (v ts)) (remade (λ x. inr x) (w ts)) e ∙ ap (λ (m : Grown B). remade {A = B} {B = A ⊎ B} (λ x. inr x) m) x.2)

  alt_fault : (ts u : List Lexeme) (c : Bool) → begins fs ts ≡ c → (if begins fs ts then r ts else s ts) ≡ Err u → alt_grow ts ≡ None
  unfolding alt_grow
  alt_fault ts u true e q =
      cond-true (begins fs ts) (remade (λ x. inl x) (v ts)) (remade (λ x. inr x) (w ts)) e ∙ ap (λ (m : Grown A). remade {A = A} {B = A ⊎ B} (λ x. inl x) m) (a.fault ts u (sym (cond-true (begins fs ts) (r ts) (s ts) e) ∙ q))
  alt_fault ts u false e q =
      cond-false (begins fs ts) (remade (λ x. inl x) (v ts)) (remade (λ x. inr x) (w ts)) e ∙ ap (λ (m : Grown B). remade {A = B} {B = A ⊎ B} (λ x. inr x) m) (b.fault ts u (sym (cond-false (begins fs ts) (r ts) (s ts) e) ∙ q))

  pub grows_alt : Grows (A ⊎ B) (either f h) (λ xs. if begins fs xs then r xs else s xs) (λ xs. if begins fs xs then remade (λ x. inl x) (v xs) else remade (λ x. inr x) (w xs))
  unfolding alt_grow
  grows_alt = record { found = λ ts u q. alt_found ts u (begins fs ts) refl q; fault = λ ts u q. alt_fault ts u (begins fs ts) refl q }

-- ---- one or none

module _ (A : Type 0) (f : A → List Lexeme) (r : List Lexeme → Read) (v : List Lexeme → Grown A) (a : Grows A f r v) (fs : List ℕ) where
  opt_grow : List Lexeme → Grown (Option A)
  opt_grow xs = if begins fs xs then remade (λ x. Some x) (v xs) else Some (None, xs)

  opt_found : (ts u : List Lexeme) (c : Bool) → begins fs ts ≡ c → (if begins fs ts then r ts else Ok ts) ≡ Ok u → (x : Option A) × (ts ≡ maybe f x ++ u) × (opt_grow ts ≡ Some (x, u))
  unfolding opt_grow
  opt_found ts u true e q =
      let x = a.found ts u (sym (cond-true (begins fs ts) (r ts) (Ok ts) e) ∙ q) in
      (Some x.0, x.1, cond-true (begins fs ts) (remade (λ x. Some x) (v ts)) (Some (None, ts)) e ∙ ap (λ (m : Grown A). remade (λ x. Some x) m) x.2)
  opt_found ts u false e q =
      let d : ts ≡ u = ok_same ts u (if begins fs ts then r ts else Ok ts) (cond-false (begins fs ts) (r ts) (Ok ts) e) q in
      (None, d, cond-false (begins fs ts) (remade (λ x. Some x) (v ts)) (Some (None, ts)) e ∙ ap (λ (t : List Lexeme). Some (None, t)) d)

  opt_fault : (ts u : List Lexeme) (c : Bool) → begins fs ts ≡ c → (if begins fs ts then r ts else Ok ts) ≡ Err u → opt_grow ts ≡ None
  unfolding opt_grow
  opt_fault ts u true e q =
      cond-true (begins fs ts) (remade (λ x. Some x) (v ts)) (Some (None, ts)) e ∙ ap (λ (m : Grown A). remade (λ x. Some x) m) (a.fault ts u (sym (cond-true (begins fs ts) (r ts) (Ok ts) e) ∙ q))
  opt_fault ts u false e q = not_both ts u (if begins fs ts then r ts else Ok ts) (cond-false (begins fs ts) (r ts) (Ok ts) e) q

  pub grows_opt : Grows (Option A) (maybe f) (λ xs. if begins fs xs then r xs else Ok xs) (λ xs. if begins fs xs then remade (λ x. Some x) (v xs) else Some (None, xs))
  unfolding opt_grow
  grows_opt = record { found = λ ts u q. opt_found ts u (begins fs ts) refl q; fault = λ ts u q. opt_fault ts u (begins fs ts) refl q }

-- ---- any number

module _ (A : Type 0) (f : A → List Lexeme) (r : List Lexeme → Read) (v : List Lexeme → Grown A) (a : Grows A f r v) (fs : List ℕ) where
  grow_more : (n : ℕ) (ts : List Lexeme) → begins fs ts ≡ true → grow_times (suc n) fs v ts ≡ grow_on (v ts) (λ y ys. remade (λ l. y ∷ l) (grow_times n fs v ys))
  unfolding grow_times
  grow_more n ts h = cond-true (begins fs ts) (grow_on (v ts) (λ y ys. remade (λ l. y ∷ l) (grow_times n fs v ys))) (Some ([], ts)) h

  grow_no_more : (n : ℕ) (ts : List Lexeme) → begins fs ts ≡ false → grow_times n fs v ts ≡ Some ([], ts)
  unfolding grow_times
  grow_no_more zero ts h = refl
  grow_no_more (suc n) ts h = cond-false (begins fs ts) (grow_on (v ts) (λ y ys. remade (λ l. y ∷ l) (grow_times n fs v ys))) (Some ([], ts)) h

  grow_none : (ts : List Lexeme) → grow_times zero fs v ts ≡ Some ([], ts)
  unfolding grow_times
  grow_none ts = refl

  next : (n : ℕ) (ts u : List Lexeme) (x : A) → begins fs ts ≡ true → v ts ≡ Some (x, u) → grow_times (suc n) fs v ts ≡ remade (λ l. x ∷ l) (grow_times n fs v u)
  next n ts u x h e = grow_more n ts h ∙ ap (λ (m : Grown A). grow_on m (λ y ys. remade (λ l. y ∷ l) (grow_times n fs v ys))) e

  times_found : (n : ℕ) (ts u : List Lexeme) → times n fs r ts ≡ Ok u → (x : List A) × (ts ≡ each f x ++ u) × (grow_times n fs v ts ≡ Some (x, u))
  unfolding times
  times_found zero ts u h = let d : ts ≡ u = cc in ([], d, grow_none ts ∙ ap (λ (t : List Lexeme). Some ([], t)) d)
  times_found (suc n) ts u h = go (times_found n) (begins fs ts) refl
    where
      go : ((ts u : List Lexeme) → times n fs r ts ≡ Ok u → (x : List A) × (ts ≡ each f x ++ u) × (grow_times n fs v ts ≡ Some (x, u))) → (c : Bool) → begins fs ts ≡ c → (x : List A) × (ts ≡ each f x ++ u) × (grow_times (suc n) fs v ts ≡ Some (x, u))
      go more true c =
          let p = bind_ok (r ts) (λ ys. times n fs r ys) u (sym (once_more fs r n ts c) ∙ h) in
          let x = a.found ts p.0 p.1 in
          let xs = more p.0 u p.2 in (
            x.0 ∷ xs.0,
            x.1 ∙ ap (λ (t : List Lexeme). f x.0 ++ t) xs.1 ∙ sym (append_assoc (f x.0) (each f xs.0) u),
            next n ts p.0 x.0 c x.2 ∙ ap (λ (m : Grown (List A)). remade (λ l. x.0 ∷ l) m) xs.2,
          )
      go more false c =
          let d : ts ≡ u = ok_same ts u (times (suc n) fs r ts) (no_more fs r (suc n) ts c) h in
          ([], d, grow_no_more (suc n) ts c ∙ ap (λ (t : List Lexeme). Some ([], t)) d)

  times_fault : (n : ℕ) (ts u : List Lexeme) → times n fs r ts ≡ Err u → grow_times n fs v ts ≡ None
  unfolding times
  times_fault zero ts u h = absurd (cc)
  times_fault (suc n) ts u h = go (times_fault n) (begins fs ts) refl
    where
      go : ((ts u : List Lexeme) → times n fs r ts ≡ Err u → grow_times n fs v ts ≡ None) → (c : Bool) → begins fs ts ≡ c → grow_times (suc n) fs v ts ≡ None
      go more true c =
          elim (bind_err (r ts) (λ ys. times n fs r ys) u (sym (once_more fs r n ts c) ∙ h)) [
            | inl e ↦ grow_more n ts c ∙ ap (λ (m : Grown A). grow_on m (λ y ys. remade (λ l. y ∷ l) (grow_times n fs v ys))) (a.fault ts u e)
            | inr e ↦
                let x = a.found ts e.0 e.1 in
                next n ts e.0 x.0 c x.2 ∙ ap (λ (m : Grown (List A)). remade (λ l. x.0 ∷ l) m) (more e.0 u e.2)
          ]
      go more false c = not_both ts u (times (suc n) fs r ts) (no_more fs r (suc n) ts c) h

  pub grows_many : Grows (List A) (each f) (λ xs. times (length xs) fs r xs) (λ xs. grow_times (length xs) fs v xs)
  grows_many = record { found = λ ts u q. times_found (length ts) ts u q; fault = λ ts u q. times_fault (length ts) ts u q }

-- ---- any number after a mark, and perhaps a last one

module _ (A B : Type 0) (k : ℕ) (f : A → List Lexeme) (g : B → List Lexeme) (r s : List Lexeme → Read) (v : List Lexeme → Grown A) (w : List Lexeme → Grown B) (a : Grows A f r v) (b : Grows B g s w) (fs : List ℕ) where
  -- after a mark, where more reads what follows
  abbrev after : (List Lexeme → Read) → List Lexeme → Read
  after more ys = if begins fs ys then (r ys >>= λ zs. more zs) else s ys

  abbrev gone_on : (List Lexeme → Grown (List A × Option B)) → List Lexeme → Grown (List A × Option B)
  gone_on m ys = grow_on (v ys) (λ x zs. remade (λ y. put_before x y) (m zs))

  abbrev ended : List Lexeme → Grown (List A × Option B)
  ended ys = remade (λ y. ([], Some y)) (w ys)

  abbrev grow_after : (List Lexeme → Grown (List A × Option B)) → List Lexeme → Grown (List A × Option B)
  grow_after m ys = if begins fs ys then gone_on m ys else ended ys

  after_found : (t : List Lexeme → Read) (m : List Lexeme → Grown (List A × Option B)) → Grows (List A × Option B) (all_marked k f g) t m → (ys u : List Lexeme) (o : Bool) → begins fs ys ≡ o → after t ys ≡ Ok u → (x : List A × Option B) × (Fixed k ∷ ys ≡ all_marked k f g x ++ u) × (grow_after m ys ≡ Some (x, u))
  after_found t m c ys u true e h =
      let p = bind_ok (r ys) t u (sym (cond-true (begins fs ys) (r ys >>= λ zs. t zs) (s ys) e) ∙ h) in
      let x = a.found ys p.0 p.1 in
      let y = c.found p.0 u p.2 in
      let es = each (marked k f) y.0.0 in
      let last = maybe (marked k g) y.0.1 in (
        put_before x.0 y.0,
        ap (λ (t : List Lexeme). Fixed k ∷ t) (x.1 ∙ ap (λ (t : List Lexeme). f x.0 ++ t) y.1)
            ∙ sym (append_assoc (Fixed k ∷ f x.0) (es ++ last) u)
            ∙ ap (λ (t : List Lexeme). t ++ u) (sym (append_assoc (Fixed k ∷ f x.0) es last)),
        cond-true (begins fs ys) (gone_on m ys) (ended ys) e
            ∙ ap (λ (n : Grown A). grow_on n (λ x zs. remade (λ y. put_before x y) (m zs))) x.2
            ∙ ap (λ (n : Grown (List A × Option B)). remade (λ y. put_before x.0 y) n) y.2,
      )
  after_found t m c ys u false e h =
      let y = b.found ys u (sym (cond-false (begins fs ys) (r ys >>= λ zs. t zs) (s ys) e) ∙ h) in
      (([], Some y.0), ap (λ (t : List Lexeme). Fixed k ∷ t) y.1, cond-false (begins fs ys) (gone_on m ys) (ended ys) e ∙ ap (λ (n : Grown B). remade {A = B} {B = List A × Option B} (λ y. ([], Some y)) n) y.2)

  after_fault : (t : List Lexeme → Read) (m : List Lexeme → Grown (List A × Option B)) → Grows (List A × Option B) (all_marked k f g) t m → (ys u : List Lexeme) (o : Bool) → begins fs ys ≡ o → after t ys ≡ Err u → grow_after m ys ≡ None
  after_fault t m c ys u true e h =
      cond-true (begins fs ys) (gone_on m ys) (ended ys) e ∙
      elim (bind_err (r ys) t u (sym (cond-true (begins fs ys) (r ys >>= λ zs. t zs) (s ys) e) ∙ h)) [
        | inl d ↦ ap (λ (n : Grown A). grow_on n (λ x zs. remade (λ y. put_before x y) (m zs))) (a.fault ys u d)
        | inr d ↦
            let x = a.found ys d.0 d.1 in
            ap (λ (n : Grown A). grow_on n (λ x zs. remade (λ y. put_before x y) (m zs))) x.2
            ∙ ap (λ (n : Grown (List A × Option B)). remade (λ y. put_before x.0 y) n) (c.fault d.0 u d.2)
      ]
  after_fault t m c ys u false e h =
      cond-false (begins fs ys) (gone_on m ys) (ended ys) e
      ∙ ap (λ (n : Grown B). remade {A = B} {B = List A × Option B} (λ y. ([], Some y)) n) (b.fault ys u (sym (cond-false (begins fs ys) (r ys >>= λ zs. t zs) (s ys) e) ∙ h))

  -- a mark, and what is after it
  mark_grows : (t : List Lexeme → Read) (m : List Lexeme → Grown (List A × Option B)) → Grows (List A × Option B) (all_marked k f g) t m → Grows (List A × Option B) (all_marked k f g) (λ xs. one k xs >>= λ ys. after t ys) (λ xs. grow_on (grow_one k xs) (λ _ ys. grow_after m ys))
  mark_grows t m c = record {
    found = λ ts u q.
        let p = bind_ok (one k ts) (λ ys. after t ys) u q in
        let x = one_found k ts p.0 p.1 in
        let y = after_found t m c p.0 u (begins fs p.0) refl p.2 in
        (y.0, x.1 ∙ y.1, ap (λ (n : Grown (Unit {0})). grow_on n (λ _ ys. grow_after m ys)) x.2 ∙ y.2);
    fault = λ ts u q.
        elim (bind_err (one k ts) (λ ys. after t ys) u q) [
          | inl e ↦ ap (λ (n : Grown (Unit {0})). grow_on n (λ _ ys. grow_after m ys)) (one_fault k ts u e)
          | inr e ↦
              let x = one_found k ts e.0 e.1 in
              ap (λ (n : Grown (Unit {0})). grow_on n (λ _ ys. grow_after m ys)) x.2 ∙ after_fault t m c e.0 u (begins fs e.0) refl e.2
        ];
  }

  module _ (t : List Lexeme → Read) (m : List Lexeme → Grown (List A × Option B)) (c : Grows (List A × Option B) (all_marked k f g) t m) where
    here_found : (ts u : List Lexeme) (o : Bool) → begins (k ∷ []) ts ≡ o → (if begins (k ∷ []) ts then t ts else Ok ts) ≡ Ok u → (x : List A × Option B) × (ts ≡ all_marked k f g x ++ u) × ((if begins (k ∷ []) ts then m ts else Some (([], None), ts)) ≡ Some (x, u))
    here_found ts u true e h =
        let x = c.found ts u (sym (cond-true (begins (k ∷ []) ts) (t ts) (Ok ts) e) ∙ h) in
        (x.0, x.1, cond-true (begins (k ∷ []) ts) (m ts) (Some (([], None), ts)) e ∙ x.2)
    here_found ts u false e h =
        let d : ts ≡ u = ok_same ts u (if begins (k ∷ []) ts then t ts else Ok ts) (cond-false (begins (k ∷ []) ts) (t ts) (Ok ts) e) h in
        (([], None), d, cond-false (begins (k ∷ []) ts) (m ts) (Some (([], None), ts)) e ∙ ap (λ (l : List Lexeme). Some (([], None), l)) d)

    here_fault : (ts u : List Lexeme) (o : Bool) → begins (k ∷ []) ts ≡ o → (if begins (k ∷ []) ts then t ts else Ok ts) ≡ Err u → (if begins (k ∷ []) ts then m ts else Some (([], None), ts)) ≡ None
    here_fault ts u true e h = cond-true (begins (k ∷ []) ts) (m ts) (Some (([], None), ts)) e ∙ c.fault ts u (sym (cond-true (begins (k ∷ []) ts) (t ts) (Ok ts) e) ∙ h)
    here_fault ts u false e h = not_both ts u (if begins (k ∷ []) ts then t ts else Ok ts) (cond-false (begins (k ∷ []) ts) (t ts) (Ok ts) e) h

  grows_turns : (n : ℕ) → Grows (List A × Option B) (all_marked k f g) (turns n k fs r s) (grow_turns n k fs v w)
  unfolding turns grow_turns
  grows_turns zero =
      let c : Grows (List A × Option B) (all_marked k f g) (λ xs. Err xs) (λ xs. None) = record { found = λ ts u q. absurd (cc); fault = λ ts u q. refl } in
      record {
        found = λ ts u q. here_found (λ xs. Err xs) (λ xs. None) c ts u (begins (k ∷ []) ts) refl q;
        fault = λ ts u q. here_fault (λ xs. Err xs) (λ xs. None) c ts u (begins (k ∷ []) ts) refl q;
      }
  grows_turns (suc n) =
      let t : List Lexeme → Read = λ xs. one k xs >>= λ ys. after (turns n k fs r s) ys in
      let m : List Lexeme → Grown (List A × Option B) = λ xs. grow_on (grow_one k xs) (λ _ ys. grow_after (grow_turns n k fs v w) ys) in
      let c = mark_grows (turns n k fs r s) (grow_turns n k fs v w) (grows_turns n) in
      record {
        found = λ ts u q. here_found t m c ts u (begins (k ∷ []) ts) refl q;
        fault = λ ts u q. here_fault t m c ts u (begins (k ∷ []) ts) refl q;
      }

  pub grows_marked : Grows (List A × Option B) (all_marked k f g) (λ xs. turns (length xs) k fs r s xs) (λ xs. grow_turns (length xs) k fs v w xs)
  grows_marked = record { found = λ ts u q. (grows_turns (length ts)).found ts u q; fault = λ ts u q. (grows_turns (length ts)).fault ts u q }

-- ---- where there is room

grows_within : (room : Bool) (A : Type 0) (f : A → List Lexeme) (r : List Lexeme → Read) (v : List Lexeme → Grown A) → Grows A f r v → Grows (Within room A) (within room f) (λ xs. if room then r xs else Err xs) (λ xs. grow_within room (v xs))
grows_within true A f r v a = a
grows_within false A f r v a = record { found = λ ts u q. absurd (cc); fault = λ ts u q. refl }

grows_by_room : (room : Bool) (A B : Type 0) (f : A → List Lexeme) (g : B → List Lexeme) (r s : List Lexeme → Read) (v : List Lexeme → Grown A) (w : List Lexeme → Grown B) → Grows A f r v → Grows B g s w → Grows (ByRoom room A B) (by_room room f g) (λ xs. if room then r xs else s xs) (λ xs. grow_by_room room (v xs) (w xs))
grows_by_room true A B f g r s v w a b = a
grows_by_room false A B f g r s v w a b = b

-- ---- constructs

where_room : (room : Bool) (A : Type 0) (f : A → List Lexeme) (r : List Lexeme → Read) (v : List Lexeme → Grown A) → Grows A f r v → Grows A f (λ xs. if room then r xs else Err xs) (λ xs. if room then v xs else None)
where_room true A f r v a = a
where_room false A f r v a = record { found = λ ts u q. absurd (cc); fault = λ ts u q. refl }

-- after its first word
under : (k : ℕ) (B : Type 0) (h : B → List Lexeme) (s : List Lexeme → Read) (w : List Lexeme → Grown B) → Grows B h s w → Grows B (λ x. Fixed k ∷ h x) (λ xs. one k xs >>= s) (λ xs. grow_on (grow_one k xs) (λ _ ys. w ys))
under k B h s w b = record {
  found = λ ts u q.
      let p = bind_ok (one k ts) s u q in
      let x = one_found k ts p.0 p.1 in
      let y = b.found p.0 u p.2 in
      (y.0, x.1 ∙ ap (λ (t : List Lexeme). Fixed k ∷ t) y.1, ap (λ (m : Grown (Unit {0})). grow_on m (λ _ ys. w ys)) x.2 ∙ y.2);
  fault = λ ts u q.
      elim (bind_err (one k ts) s u q) [
        | inl e ↦ ap (λ (m : Grown (Unit {0})). grow_on m (λ _ ys. w ys)) (one_fault k ts u e)
        | inr e ↦ let x = one_found k ts e.0 e.1 in ap (λ (m : Grown (Unit {0})). grow_on m (λ _ ys. w ys)) x.2 ∙ b.fault e.0 u e.2
      ];
}

-- ---- every rule

grows_any : (k : ℕ) → Grows Label (λ x. Named k x ∷ []) (any k) (grow_any k)
grows_any k = record { found = any_found k; fault = any_fault k }

module _ (room : Bool) (In : ℕ → Type 0) (f : (n : ℕ) → In n → List Lexeme) (r : ℕ → List Lexeme → Read) (w : (n : ℕ) → List Lexeme → Grown (In n)) (inside : (n : ℕ) → Grows (In n) (f n) (r n) (w n)) where
  pub layer_grows : (a : Rule) → Grows (Layer room In a) (layer_lexemes room In f a) (layer_read room r a) (layer_grow room In w a)
  layer_grows (One k) = record { found = one_found k; fault = one_fault k }
  layer_grows (Any k) = grows_any k
  layer_grows (Seq a b) = grows_seq (Layer room In a) (Layer room In b) (layer_lexemes room In f a) (layer_lexemes room In f b) (layer_read room r a) (layer_read room r b) (layer_grow room In w a) (layer_grow room In w b) (layer_grows a) (layer_grows b)
  layer_grows (Alt a b) = grows_alt (Layer room In a) (Layer room In b) (layer_lexemes room In f a) (layer_lexemes room In f b) (layer_read room r a) (layer_read room r b) (layer_grow room In w a) (layer_grow room In w b) (layer_grows a) (layer_grows b) (first a)
  layer_grows (Opt a) = grows_opt (Layer room In a) (layer_lexemes room In f a) (layer_read room r a) (layer_grow room In w a) (layer_grows a) (first a)
  layer_grows (Many a) = grows_many (Layer room In a) (layer_lexemes room In f a) (layer_read room r a) (layer_grow room In w a) (layer_grows a) (first a)
  layer_grows (Nest k n) = where_room room (In n) (λ x. Fixed k ∷ f n x) (λ xs. one k xs >>= r n) (λ xs. grow_on (grow_one k xs) (λ _ ys. w n ys)) (under k (In n) (f n) (r n) (w n) (inside n))
  layer_grows (Begun k n) =
      where_room room (Label × In n) (λ x. Named k x.0 ∷ f n x.1) (λ xs. any k xs >>= r n) (λ xs. grow_on (grow_any k xs) (λ x ys. remade (λ y. (x, y)) (w n ys)))
      (grows_seq Label (In n) (λ x. Named k x ∷ []) (f n) (any k) (r n) (grow_any k) (w n) (grows_any k) (inside n))
  layer_grows (RoomOr a b) = grows_by_room room (Layer room In a) (Layer room In b) (layer_lexemes room In f a) (layer_lexemes room In f b) (layer_read room r a) (layer_read room r b) (layer_grow room In w a) (layer_grow room In w b) (layer_grows a) (layer_grows b)
  layer_grows (Marked k a b) = grows_marked (Layer room In a) (Layer room In b) k (layer_lexemes room In f a) (layer_lexemes room In f b) (layer_read room r a) (layer_read room r b) (layer_grow room In w a) (layer_grow room In w b) (layer_grows a) (layer_grows b) (first a)
  layer_grows (Room a) = grows_within room (Layer room In a) (layer_lexemes room In f a) (layer_read room r a) (layer_grow room In w a) (layer_grows a)

pub construct_grows : (g : Grammar) (d n : ℕ) → Grows (Construct g d n) (construct_lexemes g d n) (construct_read g d n) (construct_grow g d n)
construct_grows g zero n = record { found = λ ts u q. absurd (cc); fault = λ ts u q. refl }
construct_grows g (suc d) n = layer_grows (has_room d) (Construct g d) (construct_lexemes g d) (construct_read g d) (construct_grow g d) (construct_grows g d) (g n)

pub grows : (g : Grammar) (d : ℕ) (a : Rule) → Grows (Tree g d a) (lexemes_of g d a) (read g d a) (grow g d a)
grows g d a = layer_grows (has_room d) (Construct g d) (construct_lexemes g d) (construct_read g d) (construct_grow g d) (construct_grows g d) a
