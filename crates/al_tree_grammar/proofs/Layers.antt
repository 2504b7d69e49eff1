-- What reading does for every rule that is clear.
use Rattle.std.proofs.Common.{ℕ, zero, suc, ◌+◌, ◌-◌, ◌<◌, ◌≡◌, Bool, true, false, not, ◌&&◌, ◌||◌, inl, inr, ⊎_elim, List, [], ◌∷◌, ◌++◌, length, take, None, Ok, Err, if◌then◌else◌, refl, sym, ap, ◌∙◌, subst, append_assoc, append-nil, length-append, arith}
use Rattle.std.proofs.lemmas.Bool.{and_parts, not-true}
use Rattle.std.proofs.lemmas.List.{take_at}
use Rattle.al_tree_grammar.specs.Grammar.{Label, Lexeme, Rule, Grammar, has_room, Within, within, ByRoom, by_room, Layer, Construct, Tree, layer_lexemes, construct_lexemes, lexemes_of, Sentence}
use Rattle.al_tree_grammar.specs.Grammar.Lexeme.{Fixed, Named}
use Rattle.al_tree_grammar.specs.Grammar.Rule.{One, Any, Seq, Alt, Opt, Many, Nest, Begun, Room, RoomOr, Marked}
use Rattle.al_tree_grammar.specs.Reading.{disjoint, none, first, more, may_be_empty, is_plain, is_clear, IsClosed, Read, ◌>>=◌, one, any, layer_read, construct_read, read}
use Rattle.al_tree_grammar.specs.Place.{IsFaultAt}
use Rattle.al_tree_grammar.proofs.Sets.{begins_parts, starts_left, starts_right, ok_same, not_both}
use Rattle.al_tree_grammar.proofs.Language.{IsFront, Reads, reads_one, reads_any, reads_seq}
use Rattle.al_tree_grammar.proofs.Choice.{none_there, reads_alt, reads_opt}
use Rattle.al_tree_grammar.proofs.Repeat.{reads_many}
use Rattle.al_tree_grammar.proofs.Marks.{reads_marked}

-- where there is room
room_reads : (room : Bool) (A : Type 0) (f : A → List Lexeme) (r : List Lexeme → Read) (fs ms : List ℕ) → (room ≡ true → Reads A f r fs ms false) → Reads (Within room A) (within room f) (λ xs. if room then r xs else Err xs) fs ms false
room_reads true A f r fs ms h = h refl
room_reads false A f r fs ms h = none_there ⊥ (λ x. absurd x) fs ms (λ x. x)

room_tree : (room : Bool) (A : Type 0) → room ≡ true → A → Within room A
room_tree true A h x = x
room_tree false A h x = absurd (cc)

-- one where there is room, the other where there is none
by_room_reads : (room : Bool) (A B : Type 0) (f : A → List Lexeme) (g : B → List Lexeme) (r s : List Lexeme → Read) (fs gs ms ns : List ℕ) → (room ≡ true → Reads A f r fs ms false) → Reads B g s gs ns false → Reads (ByRoom room A B) (by_room room f g) (λ xs. if room then r xs else s xs) (fs ++ gs) (ms ++ ns) false
by_room_reads true A B f g r s fs gs ms ns h b =
    let a = h refl in
    record {
      starts = λ x. starts_left fs gs (f x) (a.starts x);
      again = λ x ts i. a.again x ts (begins_parts ms ns ts i).0;
      unique = λ x y ks ls i j q. a.unique x y ks ls (begins_parts ms ns ks i).0 (begins_parts ms ns ls j).0 q;
      found = a.found;
      fault = a.fault;
      online = a.online;
    }
by_room_reads false A B f g r s fs gs ms ns h b = record {
  starts = λ x. starts_right fs gs (g x) (b.starts x);
  again = λ x ts i. b.again x ts (begins_parts ms ns ts i).1;
  unique = λ x y ks ls i j q. b.unique x y ks ls (begins_parts ms ns ks i).1 (begins_parts ms ns ls j).1 q;
  found = b.found;
  fault = b.fault;
  online = b.online;
}

by_room_tree : (room : Bool) (A B : Type 0) → (room ≡ true → A) → B → ByRoom room A B
by_room_tree true A B h y = h refl
by_room_tree false A B h y = y

false_there : (room : Bool) → false ≡ true → room ≡ true
false_there room h = absurd (cc)

none_empty : (ms : List ℕ) → none ms ≡ true → ms ≡ []
none_empty [] h = refl
none_empty (m ∷ ms) h = absurd (cc)

-- a construct, which is refused where no more may be open
where_room : (room : Bool) (A : Type 0) (f : A → List Lexeme) (r : List Lexeme → Read) (fs : List ℕ) → (room ≡ false → A → ⊥) → (room ≡ true → Reads A f r fs [] false) → Reads A f (λ xs. if room then r xs else Err xs) fs [] false
where_room true A f r fs empty h = h refl
where_room false A f r fs empty h = none_there A f fs [] (empty refl)

-- after its first word
under : (k : ℕ) (B : Type 0) (g : B → List Lexeme) (s : List Lexeme → Read) (gs : List ℕ) → Reads B g s gs [] false → B → Reads B (λ x. Fixed k ∷ g x) (λ xs. one k xs >>= s) (k ∷ []) [] false
under k B g s gs b y =
    let w : Reads ((Unit {0}) × B) (λ x. (Fixed k ∷ []) ++ g x.1) (λ xs. one k xs >>= s) (k ∷ []) [] false = reads_seq (Unit {0}) B (λ _. Fixed k ∷ []) g (one k) s (k ∷ []) gs [] [] false false (reads_one k) b refl y in
    record {
      starts = λ x. w.starts (tt, x);
      again = λ x ts h. w.again (tt, x) ts h;
      unique = λ x z ks ls h i q. ap (λ (p : (Unit {0}) × B). p.1) (w.unique (tt, x) (tt, z) ks ls h i q);
      found = λ ts u h. let x = w.found ts u h in (x.0.1, x.1);
      fault = λ ts u h. let x = w.fault ts u h in (x.0, ⊎_elim (λ q. inl q) (λ v. inr (v.0.1, v.1, v.2)) x.1, x.2);
      online = w.online;
    }

-- a label like any other
no_label : Label
no_label = record { text = []; line = 0; col = 0 }

pub plain_tree : (room : Bool) (In : ℕ → Type 0) → (room ≡ true → (n : ℕ) → In n) → (r : Bool) → (r ≡ true → room ≡ true) → (a : Rule) → is_plain r a ≡ true → Layer room In a
plain_tree room In some r there (One k) h = tt
plain_tree room In some r there (Any k) h = no_label
plain_tree room In some r there (Seq a b) h = let p = and_parts (is_plain r a) (is_plain r b) h in (plain_tree room In some r there a p.0, plain_tree room In some r there b p.1)
plain_tree room In some r there (Alt a b) h = inl (plain_tree room In some r there a h)
plain_tree room In some r there (Opt a) h = None
plain_tree room In some r there (Many a) h = []
plain_tree room In some r there (Nest k n) h = some (there h) n
plain_tree room In some r there (Begun k n) h = (no_label, some (there h) n)
plain_tree room In some r there (RoomOr a b) h =
    let p = and_parts (is_plain true a) (is_plain false b) h in
    by_room_tree room (Layer room In a) (Layer room In b) (λ full. plain_tree room In some true (λ _. full) a p.0) (plain_tree room In some false (false_there room) b p.1)
plain_tree room In some r there (Marked k a b) h = ([], None)
plain_tree room In some r there (Room a) h =
    let p = and_parts r (is_plain true a) h in
    room_tree room (Layer room In a) (there p.0) (plain_tree room In some true (λ e. there p.0) a p.1)

module _ (room : Bool) (In : ℕ → Type 0) (f : (n : ℕ) → In n → List Lexeme) (r : ℕ → List Lexeme → Read) (fs : ℕ → List ℕ) (some : room ≡ true → (n : ℕ) → In n) (empty : room ≡ false → (n : ℕ) → In n → ⊥) (inside : (n : ℕ) → Reads (In n) (f n) (r n) (fs n) [] false) where
  -- as a rule that has a lexeme at least
  filled : (a : Rule) (e : Bool) → e ≡ false → Reads (Layer room In a) (layer_lexemes room In f a) (layer_read room r a) (first a) (more a) e → Reads (Layer room In a) (layer_lexemes room In f a) (layer_read room r a) (first a) (more a) false
  filled a e h w = subst (λ e. Reads (Layer room In a) (layer_lexemes room In f a) (layer_read room r a) (first a) (more a) e) h w

  pub layer_reads : (o : Bool) → (o ≡ true → room ≡ true) → (a : Rule) → is_clear o a ≡ true → Reads (Layer room In a) (layer_lexemes room In f a) (layer_read room r a) (first a) (more a) (may_be_empty a)
  layer_reads o there (One k) h = reads_one k
  layer_reads o there (Any k) h = reads_any k
  layer_reads o there (Seq a b) h =
      let p = and_parts (is_clear o a && is_clear o b) (is_plain o b && disjoint (more a) (first b)) h in
      let q = and_parts (is_clear o a) (is_clear o b) p.0 in
      let s = and_parts (is_plain o b) (disjoint (more a) (first b)) p.1 in
      reads_seq (Layer room In a) (Layer room In b) (layer_lexemes room In f a) (layer_lexemes room In f b) (layer_read room r a) (layer_read room r b) (first a) (first b) (more a) (more b) (may_be_empty a) (may_be_empty b) (layer_reads o there a q.0) (layer_reads o there b q.1) s.1 (plain_tree room In some o there b s.0)
  layer_reads o there (Alt a b) h =
      let p = and_parts (is_clear o a && is_clear o b) ((not (may_be_empty a) && not (may_be_empty b)) && disjoint (first a) (first b)) h in
      let q = and_parts (is_clear o a) (is_clear o b) p.0 in
      let s = and_parts (not (may_be_empty a) && not (may_be_empty b)) (disjoint (first a) (first b)) p.1 in
      let t = and_parts (not (may_be_empty a)) (not (may_be_empty b)) s.0 in
      let d = not-true (may_be_empty a) t.0 in
      let e = not-true (may_be_empty b) t.1 in
      let w = reads_alt (Layer room In a) (Layer room In b) (layer_lexemes room In f a) (layer_lexemes room In f b) (layer_read room r a) (layer_read room r b) (first a) (first b) (more a) (more b) (filled a (may_be_empty a) d (layer_reads o there a q.0)) (filled b (may_be_empty b) e (layer_reads o there b q.1)) s.1 in
      let no : (may_be_empty a || may_be_empty b) ≡ false = rw (d, e) refl in
      subst (λ e. Reads (Layer room In (Alt a b)) (layer_lexemes room In f (Alt a b)) (layer_read room r (Alt a b)) (first (Alt a b)) (more (Alt a b)) e) (sym no) w
  layer_reads o there (Opt a) h =
      let p = and_parts (is_clear o a) (not (may_be_empty a)) h in
      reads_opt (Layer room In a) (layer_lexemes room In f a) (layer_read room r a) (first a) (more a) (filled a (may_be_empty a) (not-true (may_be_empty a) p.1) (layer_reads o there a p.0))
  layer_reads o there (Many a) h =
      let p = and_parts (is_clear o a && not (may_be_empty a)) (disjoint (more a) (first a)) h in
      let q = and_parts (is_clear o a) (not (may_be_empty a)) p.0 in
      reads_many (Layer room In a) (layer_lexemes room In f a) (layer_read room r a) (first a) (more a) (filled a (may_be_empty a) (not-true (may_be_empty a) q.1) (layer_reads o there a q.0)) p.1
  layer_reads o there (Nest k n) h = where_room room (In n) (λ x. Fixed k ∷ f n x) (λ xs. one k xs >>= r n) (k ∷ []) (λ none. empty none n) (λ full. under k (In n) (f n) (r n) (fs n) (inside n) (some full n))
  layer_reads o there (Begun k n) h =
      where_room room (Label × In n) (λ x. Named k x.0 ∷ f n x.1) (λ xs. any k xs >>= r n) (k ∷ []) (λ none x. empty none n x.1)
      (λ full. reads_seq Label (In n) (λ x. Named k x ∷ []) (f n) (any k) (r n) (k ∷ []) (fs n) [] [] false false (reads_any k) (inside n) refl (some full n))
  layer_reads o there (RoomOr a b) h =
      let p = and_parts (is_clear true a && is_clear false b) (not (may_be_empty a) && not (may_be_empty b)) h in
      let q = and_parts (is_clear true a) (is_clear false b) p.0 in
      let t = and_parts (not (may_be_empty a)) (not (may_be_empty b)) p.1 in
      let d = not-true (may_be_empty a) t.0 in
      let e = not-true (may_be_empty b) t.1 in
      let no : (may_be_empty a || may_be_empty b) ≡ false = rw (d, e) refl in
      subst (λ e. Reads (Layer room In (RoomOr a b)) (layer_lexemes room In f (RoomOr a b)) (layer_read room r (RoomOr a b)) (first (RoomOr a b)) (more (RoomOr a b)) e) (sym no)
      (by_room_reads room (Layer room In a) (Layer room In b) (layer_lexemes room In f a) (layer_lexemes room In f b) (layer_read room r a) (layer_read room r b) (first a) (first b) (more a) (more b)
      (λ full. filled a (may_be_empty a) d (layer_reads true (λ _. full) a q.0)) (filled b (may_be_empty b) e (layer_reads false (false_there room) b q.1)))
  layer_reads o there (Marked k a b) h =
      let choice = (is_clear o a && is_clear o b) && ((not (may_be_empty a) && not (may_be_empty b)) && disjoint (first a) (first b)) in
      let p = and_parts choice (is_plain o a && disjoint (more a) (k ∷ [])) h in
      let q = and_parts (is_clear o a && is_clear o b) ((not (may_be_empty a) && not (may_be_empty b)) && disjoint (first a) (first b)) p.0 in
      let c = and_parts (is_clear o a) (is_clear o b) q.0 in
      let s = and_parts (not (may_be_empty a) && not (may_be_empty b)) (disjoint (first a) (first b)) q.1 in
      let t = and_parts (not (may_be_empty a)) (not (may_be_empty b)) s.0 in
      let u = and_parts (is_plain o a) (disjoint (more a) (k ∷ [])) p.1 in
      reads_marked (Layer room In a) (Layer room In b) k (layer_lexemes room In f a) (layer_lexemes room In f b) (layer_read room r a) (layer_read room r b) (first a) (first b) (more a) (more b) (filled a (may_be_empty a) (not-true (may_be_empty a) t.0) (layer_reads o there a c.0)) (filled b (may_be_empty b) (not-true (may_be_empty b) t.1) (layer_reads o there b c.1)) s.1 u.1 (plain_tree room In some o there a u.0)
  layer_reads o there (Room a) h =
      let p = and_parts (is_clear true a) (not (may_be_empty a)) h in
      let e = not-true (may_be_empty a) p.1 in
      subst (λ e. Reads (Layer room In (Room a)) (layer_lexemes room In f (Room a)) (layer_read room r (Room a)) (first a) (more a) e) (sym e)
      (room_reads room (Layer room In a) (layer_lexemes room In f a) (layer_read room r a) (first a) (more a) (λ full. filled a (may_be_empty a) e (layer_reads true (λ _. full) a p.0)))

-- where a construct may be open there is one of each
pub some_construct : (g : Grammar) → IsClosed g → (d : ℕ) → has_room d ≡ true → (n : ℕ) → Construct g d n
some_construct g closed zero h n = absurd (cc)
some_construct g closed (suc d) h n =
    let p = and_parts (is_clear false (g n) && is_plain false (g n)) (none (more (g n)) && not (may_be_empty (g n))) (closed n) in
    let q = and_parts (is_clear false (g n)) (is_plain false (g n)) p.0 in
    plain_tree (has_room d) (Construct g d) (some_construct g closed d) false (false_there (has_room d)) (g n) q.1

no_construct : (g : Grammar) (d : ℕ) → has_room d ≡ false → (n : ℕ) → Construct g d n → ⊥
no_construct g zero h n x = x
no_construct g (suc d) h n x = absurd (cc)

pub construct_reads : (g : Grammar) → IsClosed g → (d n : ℕ) → Reads (Construct g d n) (construct_lexemes g d n) (construct_read g d n) (first (g n)) [] false
construct_reads g closed zero n = none_there ⊥ (λ x. absurd x) (first (g n)) [] (λ x. x)
construct_reads g closed (suc d) n =
    let p = and_parts (is_clear false (g n) && is_plain false (g n)) (none (more (g n)) && not (may_be_empty (g n))) (closed n) in
    let q = and_parts (is_clear false (g n)) (is_plain false (g n)) p.0 in
    let s = and_parts (none (more (g n))) (not (may_be_empty (g n))) p.1 in
    let A = Layer (has_room d) (Construct g d) (g n) in
    let f = layer_lexemes (has_room d) (Construct g d) (construct_lexemes g d) (g n) in
    let r = layer_read (has_room d) (construct_read g d) (g n) in
    subst (λ ms. Reads A f r (first (g n)) ms false) (none_empty (more (g n)) s.0)
    (subst (λ e. Reads A f r (first (g n)) (more (g n)) e) (not-true (may_be_empty (g n)) s.1)
    (layer_reads (has_room d) (Construct g d) (construct_lexemes g d) (construct_read g d) (λ m. first (g m)) (some_construct g closed d) (no_construct g d) (construct_reads g closed d) false (false_there (has_room d)) (g n) q.0))

pub reads : (g : Grammar) → IsClosed g → (d : ℕ) (a : Rule) → is_clear false a ≡ true → Reads (Tree g d a) (lexemes_of g d a) (read g d a) (first a) (more a) (may_be_empty a)
reads g closed d a h = layer_reads (has_room d) (Construct g d) (construct_lexemes g d) (construct_read g d) (λ m. first (g m)) (some_construct g closed d) (no_construct g d) (construct_reads g closed d) false (false_there (has_room d)) a h

-- ---- whole lists

module _ (g : Grammar) (closed : IsClosed g) (d : ℕ) (a : Rule) (clear : is_clear false a ≡ true) where
  -- No two trees have one list.
  pub one_tree : (x y : Tree g d a) → lexemes_of g d a x ≡ lexemes_of g d a y → x ≡ y
  one_tree x y q = (reads g closed d a clear).unique x y [] [] refl refl (ap (λ (t : List Lexeme). t ++ []) q)

  pub sentence_again : (xs : List Lexeme) → Sentence g d a xs → read g d a xs ≡ Ok []
  sentence_again xs s = ap (read g d a) (sym s.1 ∙ sym (append-nil (lexemes_of g d a s.0))) ∙ (reads g closed d a clear).again s.0 [] refl

  pub is_sentence : (xs : List Lexeme) → read g d a xs ≡ Ok [] → Sentence g d a xs
  is_sentence xs h = let x = (reads g closed d a clear).found xs [] h in (x.0, sym (append-nil (lexemes_of g d a x.0)) ∙ sym x.1)

  next_one : (p v rest : List Lexeme) (c : Lexeme) → take (length p + 1) (p ++ c ∷ v) ++ rest ≡ p ++ c ∷ rest
  next_one p v rest c =
      let e : take (length p + 1) (p ++ c ∷ v) ≡ p ++ c ∷ [] = ap (take (length p + 1)) (sym (append_assoc p (c ∷ []) v)) ∙ take_at (p ++ c ∷ []) v (length p + 1) (omega (arith, length-append p (c ∷ []))) in
      ap (λ (t : List Lexeme). t ++ rest) e ∙ append_assoc p (c ∷ []) rest

  fault_at : (p u : List Lexeme) → ((rest : List Lexeme) × Sentence g d a (p ++ rest)) → ((c : Lexeme) (v w : List Lexeme) → u ≡ c ∷ v → Sentence g d a (p ++ c ∷ w) → ⊥) → (Sentence g d a (p ++ u) → ⊥) → IsFaultAt g d a (p ++ u) (length p)
  fault_at p u s dead whole = record {
    within = omega (arith, length-append p u);
    goes_on = (s.0, subst (λ (t : List Lexeme). Sentence g d a (t ++ s.0)) (sym (take_at p u (length p) refl)) s.1);
    no_further = further u dead;
    no_sentence = whole;
  }
    where
      further : (u : List Lexeme) → ((c : Lexeme) (v w : List Lexeme) → u ≡ c ∷ v → Sentence g d a (p ++ c ∷ w) → ⊥) → length p < length (p ++ u) → (rest : List Lexeme) → Sentence g d a (take (length p + 1) (p ++ u) ++ rest) → ⊥
      further [] dead l rest t = let f : ⊥ = omega (arith, ap length (append-nil p)) in f
      further (c ∷ v) dead l rest t = dead c v rest refl (subst (Sentence g d a) (next_one p v rest c) t)

  -- n lexemes are left from the fault on
  left_of : (xs u p : List Lexeme) → xs ≡ p ++ u → IsFaultAt g d a (p ++ u) (length p) → IsFaultAt g d a xs (length xs - length u)
  left_of xs u p e f =
      let l : length xs - length u ≡ length p = omega (arith, ap length e, length-append p u) in
      subst (λ (n : ℕ). IsFaultAt g d a xs n) (sym l) (subst (λ (t : List Lexeme). IsFaultAt g d a t (length p)) (sym e) f)

  goes : Tree g d a → (p : List Lexeme) → IsFront (lexemes_of g d a) p → (rest : List Lexeme) × Sentence g d a (p ++ rest)
  goes x p (inl q) = (lexemes_of g d a x, (x, ap (λ (t : List Lexeme). t ++ lexemes_of g d a x) (sym q)))
  goes x p (inr w) = (w.1, (w.0, w.2))

  pub is_fault : (xs u : List Lexeme) → Tree g d a → read g d a xs ≡ Err u → IsFaultAt g d a xs (length xs - length u)
  is_fault xs u x h =
      let w = reads g closed d a clear in
      let p = w.fault xs u h in
      left_of xs u p.0 p.2 (fault_at p.0 u (goes x p.0 p.1)
      (λ c v t e s. not_both [] (c ∷ t) (read g d a (p.0 ++ c ∷ t)) (sentence_again (p.0 ++ c ∷ t) s)
      (w.online.err p.0 c [] v t (ap (read g d a) (sym (p.2 ∙ ap (λ (z : List Lexeme). p.0 ++ z) e)) ∙ h ∙ ap (λ (z : List Lexeme). Err z) e)))
      (λ s. not_both [] u (read g d a xs) (sentence_again xs (subst (Sentence g d a) (sym p.2) s)) h))

  -- a sentence, and more after it
  pub is_over : (xs : List Lexeme) (c : Lexeme) (u : List Lexeme) → read g d a xs ≡ Ok (c ∷ u) → IsFaultAt g d a xs (length xs - length (c ∷ u))
  is_over xs c u h =
      let w = reads g closed d a clear in
      let x = w.found xs (c ∷ u) h in
      let p = lexemes_of g d a x.0 in
      left_of xs (c ∷ u) p x.1 (fault_at p (c ∷ u) ([], (x.0, sym (append-nil p)))
      (λ b v t e s. differs b t (ok_same [] (b ∷ t) (read g d a (p ++ b ∷ t)) (sentence_again (p ++ b ∷ t) s)
      (w.online.ok p b [] v t (ap (read g d a) (sym (x.1 ∙ ap (λ (z : List Lexeme). p ++ z) e)) ∙ h ∙ ap (λ (z : List Lexeme). Ok z) e))))
      (λ s. differs c u (ok_same [] (c ∷ u) (read g d a xs) (sentence_again xs (subst (Sentence g d a) (sym x.1) s)) h)))
    where
      differs : (c : Lexeme) (u : List Lexeme) → [] ≡ c ∷ u → ⊥
      differs c u e = cc
