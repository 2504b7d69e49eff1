-- Reading one rule or another, or none.
use Rattle.std.proofs.lemmas.List.{append_cancel_right}
use Rattle.std.proofs.Common.{⊎_elim, ℕ, ◌≡◌, Bool, true, false, ◌⊎◌, inl, inr, List, [], ◌∷◌, ◌++◌, Option, Some, None, Ok, Err, if◌then◌else◌, refl, sym, ap, ◌∙◌}
use Rattle.std.proofs.lemmas.Bool.{both_ways, cond-true, cond-false}
use Rattle.al_tree_grammar.specs.Grammar.{Lexeme, either, maybe}
use Rattle.al_tree_grammar.specs.Grammar.Lexeme.{Fixed}
use Rattle.al_tree_grammar.specs.Reading.{disjoint, begins, Read}
use Rattle.al_tree_grammar.proofs.Sets.{begins_parts, Starts, begins_same, starts_left, starts_right, starts_begins, starts_not}
use Rattle.al_tree_grammar.proofs.Language.{IsFront, IsOnline, Reads}

-- the next lexeme chooses
abbrev pub chosen : List ℕ → (List Lexeme → Read) → (List Lexeme → Read) → List Lexeme → Read
chosen fs r s xs = if begins fs xs then r xs else s xs

module _ (fs : List ℕ) (r s : List Lexeme → Read) where
  pub at_true : (xs : List Lexeme) → begins fs xs ≡ true → chosen fs r s xs ≡ r xs
  at_true xs h = cond-true (begins fs xs) (r xs) (s xs) h

  pub at_false : (xs : List Lexeme) → begins fs xs ≡ false → chosen fs r s xs ≡ s xs
  at_false xs h = cond-false (begins fs xs) (r xs) (s xs) h

  pub chosen_online : IsOnline r → IsOnline s → IsOnline (chosen fs r s)
  chosen_online a b = record {
    ok = λ p c q t u h. okay p c q t u (begins fs (p ++ c ∷ t)) refl h;
    err = λ p c q t u h. wrong p c q t u (begins fs (p ++ c ∷ t)) refl h;
  }
    where
      okay : (p : List Lexeme) (c : Lexeme) (q t u : List Lexeme) (w : Bool) → begins fs (p ++ c ∷ t) ≡ w → chosen fs r s (p ++ c ∷ t) ≡ Ok (q ++ c ∷ t) → chosen fs r s (p ++ c ∷ u) ≡ Ok (q ++ c ∷ u)
      okay p c q t u true k h = at_true (p ++ c ∷ u) (begins_same fs p c u t ∙ k) ∙ a.ok p c q t u (sym (at_true (p ++ c ∷ t) k) ∙ h)
      okay p c q t u false k h = at_false (p ++ c ∷ u) (begins_same fs p c u t ∙ k) ∙ b.ok p c q t u (sym (at_false (p ++ c ∷ t) k) ∙ h)

      wrong : (p : List Lexeme) (c : Lexeme) (q t u : List Lexeme) (w : Bool) → begins fs (p ++ c ∷ t) ≡ w → chosen fs r s (p ++ c ∷ t) ≡ Err (q ++ c ∷ t) → chosen fs r s (p ++ c ∷ u) ≡ Err (q ++ c ∷ u)
      wrong p c q t u true k h = at_true (p ++ c ∷ u) (begins_same fs p c u t ∙ k) ∙ a.err p c q t u (sym (at_true (p ++ c ∷ t) k) ∙ h)
      wrong p c q t u false k h = at_false (p ++ c ∷ u) (begins_same fs p c u t ∙ k) ∙ b.err p c q t u (sym (at_false (p ++ c ∷ t) k) ∙ h)

module _ (A B : Type 0) (f : A → List Lexeme) (g : B → List Lexeme) (r s : List Lexeme → Read) (fs gs ms ns : List ℕ) (a : Reads A f r fs ms false) (b : Reads B g s gs ns false) where
  alt_starts : (x : A ⊎ B) → Starts (fs ++ gs) false (either f g x)
  alt_starts (inl x) = starts_left fs gs (f x) (a.starts x)
  alt_starts (inr y) = starts_right fs gs (g y) (b.starts y)

  alt_again : disjoint fs gs ≡ true → (x : A ⊎ B) (ts : List Lexeme) → begins (ms ++ ns) ts ≡ false → chosen fs r s (either f g x ++ ts) ≡ Ok ts
  alt_again apart (inl x) ts h = at_true fs r s (f x ++ ts) (starts_begins fs (f x) ts (a.starts x)) ∙ a.again x ts (begins_parts ms ns ts h).0
  alt_again apart (inr y) ts h = at_false fs r s (g y ++ ts) (starts_not fs gs (g y) ts apart (b.starts y)) ∙ b.again y ts (begins_parts ms ns ts h).1

  -- trees of the two begin apart
  apart_at : {P : Type 0} → disjoint fs gs ≡ true → (x : A) (y : B) (ks ls : List Lexeme) → f x ++ ks ≡ g y ++ ls → P
  apart_at apart x y ks ls q = absurd (both_ways (begins fs (g y ++ ls)) (starts_not fs gs (g y) ls apart (b.starts y)) (ap (begins fs) (sym q) ∙ starts_begins fs (f x) ks (a.starts x)))

  alt_unique : disjoint fs gs ≡ true → (x y : A ⊎ B) (ks ls : List Lexeme) → begins (ms ++ ns) ks ≡ false → begins (ms ++ ns) ls ≡ false → either f g x ++ ks ≡ either f g y ++ ls → x ≡ y
  alt_unique apart (inl x) (inl y) ks ls h i q = ap (λ z. inl z) (a.unique x y ks ls (begins_parts ms ns ks h).0 (begins_parts ms ns ls i).0 q)
  alt_unique apart (inl x) (inr y) ks ls h i q = apart_at apart x y ks ls q
  alt_unique apart (inr x) (inl y) ks ls h i q = apart_at apart y x ls ks (sym q)
  alt_unique apart (inr x) (inr y) ks ls h i q = ap (λ z. inr z) (b.unique x y ks ls (begins_parts ms ns ks h).1 (begins_parts ms ns ls i).1 q)

  alt_found : (ts u : List Lexeme) (w : Bool) → begins fs ts ≡ w → chosen fs r s ts ≡ Ok u → (x : A ⊎ B) × (ts ≡ either f g x ++ u)
  alt_found ts u true k h = let x = a.found ts u (sym (at_true fs r s ts k) ∙ h) in (inl x.0, x.1)
  alt_found ts u false k h = let x = b.found ts u (sym (at_false fs r s ts k) ∙ h) in (inr x.0, x.1)

  front_left : (p : List Lexeme) → IsFront f p → IsFront (either f g) p
  front_left p (inl q) = inl q
  front_left p (inr w) = inr (inl w.0, w.1, w.2)

  front_right : (p : List Lexeme) → IsFront g p → IsFront (either f g) p
  front_right p (inl q) = inl q
  front_right p (inr w) = inr (inr w.0, w.1, w.2)

  alt_fault : (ts u : List Lexeme) (w : Bool) → begins fs ts ≡ w → chosen fs r s ts ≡ Err u → (p : List Lexeme) × IsFront (either f g) p × (ts ≡ p ++ u)
  alt_fault ts u true k h = let x = a.fault ts u (sym (at_true fs r s ts k) ∙ h) in (x.0, front_left x.0 x.1, x.2)
  alt_fault ts u false k h = let x = b.fault ts u (sym (at_false fs r s ts k) ∙ h) in (x.0, front_right x.0 x.1, x.2)

  pub reads_alt : disjoint fs gs ≡ true → Reads (A ⊎ B) (either f g) (chosen fs r s) (fs ++ gs) (ms ++ ns) false
  reads_alt apart = record {
    starts = alt_starts;
    again = alt_again apart;
    unique = alt_unique apart;
    found = λ ts u h. alt_found ts u (begins fs ts) refl h;
    fault = λ ts u h. alt_fault ts u (begins fs ts) refl h;
    online = chosen_online fs r s a.online b.online;
  }

abbrev pub stays : List Lexeme → Read
stays xs = Ok xs

pub stays_online : IsOnline stays
stays_online = record { ok = stays_ok; err = λ p c q t u h. absurd (cc) }
  where
    same : (x y : List Lexeme) → stays x ≡ stays y → x ≡ y
    same x y e = cc

    stays_ok : (p : List Lexeme) (c : Lexeme) (q t u : List Lexeme) → stays (p ++ c ∷ t) ≡ stays (q ++ c ∷ t) → stays (p ++ c ∷ u) ≡ stays (q ++ c ∷ u)
    stays_ok p c q t u h = ap (λ (y : List Lexeme). stays (y ++ c ∷ u)) (append_cancel_right p q (c ∷ t) (same (p ++ c ∷ t) (q ++ c ∷ t) h))

pub starts_more : (s : List ℕ) (xs : List Lexeme) → Starts s false xs → Starts s true xs
starts_more s [] h = refl
starts_more s (x ∷ xs) h = h

module _ (A : Type 0) (f : A → List Lexeme) (r : List Lexeme → Read) (fs ms : List ℕ) (a : Reads A f r fs ms false) where
  opt_starts : (x : Option A) → Starts fs true (maybe f x)
  opt_starts None = refl
  opt_starts (Some x) = starts_more fs (f x) (a.starts x)

  opt_again : (x : Option A) (ts : List Lexeme) → begins (fs ++ ms) ts ≡ false → chosen fs r stays (maybe f x ++ ts) ≡ Ok ts
  opt_again None ts h = at_false fs r stays ts (begins_parts fs ms ts h).0
  opt_again (Some x) ts h = at_true fs r stays (f x ++ ts) (starts_begins fs (f x) ts (a.starts x)) ∙ a.again x ts (begins_parts fs ms ts h).1

  no_none : {P : Type 0} (x : A) (ks ls : List Lexeme) → begins (fs ++ ms) ls ≡ false → f x ++ ks ≡ ls → P
  no_none x ks ls h q = absurd (both_ways (begins fs ls) (begins_parts fs ms ls h).0 (ap (begins fs) (sym q) ∙ starts_begins fs (f x) ks (a.starts x)))

  opt_unique : (x y : Option A) (ks ls : List Lexeme) → begins (fs ++ ms) ks ≡ false → begins (fs ++ ms) ls ≡ false → maybe f x ++ ks ≡ maybe f y ++ ls → x ≡ y
  opt_unique None None ks ls h i q = refl
  opt_unique None (Some y) ks ls h i q = no_none y ls ks h (sym q)
  opt_unique (Some x) None ks ls h i q = no_none x ks ls i q
  opt_unique (Some x) (Some y) ks ls h i q = ap (λ z. Some z) (a.unique x y ks ls (begins_parts fs ms ks h).1 (begins_parts fs ms ls i).1 q)

  opt_found : (ts u : List Lexeme) (w : Bool) → begins fs ts ≡ w → chosen fs r stays ts ≡ Ok u → (x : Option A) × (ts ≡ maybe f x ++ u)
  opt_found ts u true k h = let x = a.found ts u (sym (at_true fs r stays ts k) ∙ h) in (Some x.0, x.1)
  opt_found ts u false k h = let m = sym (at_false fs r stays ts k) ∙ h in (None, cc)

  opt_fault : (ts u : List Lexeme) (w : Bool) → begins fs ts ≡ w → chosen fs r stays ts ≡ Err u → (p : List Lexeme) × IsFront (maybe f) p × (ts ≡ p ++ u)
  opt_fault ts u true k h = let x = a.fault ts u (sym (at_true fs r stays ts k) ∙ h) in (x.0, ⊎_elim (λ q. inl q) (λ w. inr (Some w.0, w.1, w.2)) x.1, x.2)
  opt_fault ts u false k h = let m : stays ts ≡ Err u = sym (at_false fs r stays ts k) ∙ h in absurd (cc)

  pub reads_opt : Reads (Option A) (maybe f) (chosen fs r (λ xs. Ok xs)) fs (fs ++ ms) true
  reads_opt = record {
    starts = opt_starts;
    again = opt_again;
    unique = opt_unique;
    found = λ ts u h. opt_found ts u (begins fs ts) refl h;
    fault = λ ts u h. opt_fault ts u (begins fs ts) refl h;
    online = chosen_online fs r stays a.online stays_online;
  }

-- where there is none
refuses : List Lexeme → Read
refuses xs = Err xs

refuses_online : IsOnline refuses
unfolding refuses
refuses_online = record { ok = λ p c q s t h. absurd (cc); err = never_err }
  where
    same : (x y : List Lexeme) (m : Read) → m ≡ Err x → m ≡ Err y → x ≡ y
    same x y m e d = cc

    never_err : (p : List Lexeme) (c : Lexeme) (q s t : List Lexeme) → refuses (p ++ c ∷ s) ≡ Err (q ++ c ∷ s) → refuses (p ++ c ∷ t) ≡ Err (q ++ c ∷ t)
    never_err p c q s t h = ap (λ (y : List Lexeme). Err (y ++ c ∷ t)) (append_cancel_right p q (c ∷ s) (same (p ++ c ∷ s) (q ++ c ∷ s) (refuses (p ++ c ∷ s)) refl h))

pub none_there : (A : Type 0) (f : A → List Lexeme) (fs ms : List ℕ) → (A → ⊥) → Reads A f (λ xs. Err xs) fs ms false
unfolding refuses
none_there A f fs ms empty = record {
  starts = λ x. absurd (empty x);
  again = λ x. absurd (empty x);
  unique = λ x. absurd (empty x);
  found = λ ts u h. absurd (cc);
  fault = λ ts u h. ([], inl refl, cc);
  online = refuses_online;
}

pub never : (k : ℕ) → Reads ⊥ (λ x. Fixed k ∷ absurd x) (λ xs. Err xs) (k ∷ []) [] false
never k = none_there ⊥ (λ x. Fixed k ∷ absurd x) (k ∷ []) [] (λ x. x)
