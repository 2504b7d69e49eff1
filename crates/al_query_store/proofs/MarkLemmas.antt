-- What one comparison does to the marks.
use Rattle.std.proofs.Common.{◌≡◌, ◌<◌, ◌≤◌, ◌+◌, ◌⊎◌, ℕ, Bool, true, false, ◌&&◌, ◌||◌, List, [], ◌∷◌, ◌++◌, Option, Some, None, refl, sym, ◌∙◌, ap, subst, length, nat_eq, nat_lt, slice_set, if◌then◌else◌, inl, inr, filter, cond}
use Rattle.std.specs.Prelude.{slice_get}
use Rattle.std.specs.List.{list_any}
use Rattle.std.specs.Option.{option_map, option_map_or}
use Rattle.std.proofs.lemmas.Bool.{ltb-true, ltb-false, eqb-true, eqb-false, eq-eqb, true≢false}
use Rattle.std.proofs.lemmas.List.{get_or-set_same, get_or-set_other, get_or_past, length-set}
use Rattle.std.proofs.lemmas.List.{length-append}
use Rattle.std.proofs.lemmas.List.Folds.{list_any-append}
use Rattle.std.proofs.lemmas.List.Elements.{filter-append}
use Rattle.std.proofs.lemmas.Option.{slice_get_past, slice_get-get_or, slice_get_within}
use Rattle.slab.specs.Slab.{Slab, get, with_value}
use Rattle.al_base.specs.declared.unit_key.UnitKey.{UnitKey}
use Rattle.al_query.specs.declared.answer.AnswerKind.{AnswerKind}
use Rattle.al_query.specs.declared.query.Query.{Query}
use Rattle.al_query_store.specs.declared.place.Place.{Place}
use Rattle.al_query_store.specs.Reads.{reads, same_place}
use Rattle.al_query_store.proofs.ReadLemmas.{ByUnit}
use Rattle.al_view.proofs.SymbolLemmas.{same_unit-one}
use Rattle.al_query.specs.Queries.{same_query, unit_of}
use Rattle.al_query.specs.QueryLaws.{same_query-self}
use Rattle.al_query_store.specs.Stored.{AreSized, AreUntouched, IsIndexed, SameBase, base, in_log, is_stored, with_mark}
use Rattle.al_query_store.specs.declared.slots.Held.{Held}
use Rattle.al_query_store.specs.Marking.{Differs, IsMarked, IsSized, Tells, answer_at, answer_in, is_of, mark_at, mark_in}

get_same : (xs : List Bool) (i : ℕ) (b : Bool) → i < length xs → slice_get (slice_set xs i b) i ≡ Some b
get_same xs i b h =
    let within : i < length (slice_set xs i b) = rw (length-set xs i b) h in
    slice_get-get_or (slice_set xs i b) i false within ∙ ap (λ (x : Bool). Some x) (get_or-set_same xs i b false h)

get_other : (xs : List Bool) (i j : ℕ) (b : Bool) → (j ≡ i → ⊥) → slice_get (slice_set xs i b) j ≡ slice_get xs j
get_other xs i j b d = by (nat_lt j (length xs)) refl
  where
    by : (l : Bool) → nat_lt j (length xs) ≡ l → slice_get (slice_set xs i b) j ≡ slice_get xs j
    by true l =
        let h : j < length xs = ltb-true j (length xs) l in
        let within : j < length (slice_set xs i b) = rw (length-set xs i b) h in
        slice_get-get_or (slice_set xs i b) j false within ∙ ap (λ (x : Bool). Some x) (get_or-set_other xs i j b false d) ∙ sym (slice_get-get_or xs j false h)
    by false l =
        let h : length xs ≤ j = ltb-false j (length xs) l in
        let past : length (slice_set xs i b) ≤ j = rw (length-set xs i b) h in
        slice_get_past (slice_set xs i b) j past ∙ sym (slice_get_past xs j h)

and_parts : (a b : Bool) → (a && b) ≡ true → (a ≡ true) × (b ≡ true)
and_parts true true h = (refl, refl)
and_parts true false h = absurd (cc)
and_parts false b h = absurd (cc)

pub place_one : (a b : Place) → same_place a b ≡ true → a ≡ b
place_one a b h =
    let parts = and_parts (nat_eq a.entry b.entry) (nat_eq a.at b.at) h in
    let make : ℕ → ℕ → Place = λ x y. record { entry = x; at = y } in
    ap (λ (x : ℕ). make x a.at) (eqb-true a.entry b.entry parts.0) ∙ ap (λ (y : ℕ). make b.entry y) (eqb-true a.at b.at parts.1)

module _ {H : Type 0} where
  within : (s : Slab H) (k : ℕ) (h : H) → get s k ≡ Some h → k < length s.slots
  within s k h there = by (nat_lt k (length s.slots)) refl
    where
      by : (l : Bool) → nat_lt k (length s.slots) ≡ l → k < length s.slots
      by true l = ltb-true k (length s.slots) l
      by false l =
          let none : get s k ≡ None = get_or_past s.slots k None (ltb-false k (length s.slots) l) in
          absurd (cc)

  pub get-written : (s : Slab H) (k : ℕ) (h g : H) → get s k ≡ Some h → get (with_value s k g) k ≡ Some g
  get-written s k h g there = get_or-set_same s.slots k (Some g) None (within s k h there)

  pub get-unwritten : (s : Slab H) (k x : ℕ) (g : H) → (x ≡ k → ⊥) → get (with_value s k g) x ≡ get s x
  get-unwritten s k x g d = get_or-set_other s.slots k x (Some g) None d

in_settled : (b : Bool) (o : Option (Query × AnswerKind)) (e : Query × AnswerKind) → (if b then o else None) ≡ Some e → o ≡ Some e
in_settled true o e h = h
in_settled false o e h = absurd (cc)

settled_is : (u : UnitKey) (b : Bool) (o : Option (Query × AnswerKind)) → is_of u (if b then o else None) ≡ true → is_of u o ≡ true
settled_is u true o h = h
settled_is u false o h = absurd (true≢false (sym h))

-- where there is an answer to a unit's question
stored_at : (u : UnitKey) (o : Option (Query × AnswerKind)) → is_of u o ≡ true → (e : Query × AnswerKind) × (o ≡ Some e)
stored_at u None h = absurd (true≢false (sym h))
stored_at u (Some e) h = (e, refl)

module _ {E : Type 0} (log : E → List (Query × AnswerKind)) (t : Query → AnswerKind) (u : UnitKey) where
  module _ (s : Slab (Held E)) (r : Place) where
    -- a place that isn't of the unit
    pub other_marked : is_of u (answer_at log s r) ≡ false → IsMarked log t (λ p. is_of u (answer_at log s p) && same_place p r) s s
    other_marked out = record {
      answered = λ p e test at. absurd (never p (and_parts (is_of u (answer_at log s p)) (same_place p r) test));
      left = λ p test. refl;
    }
      where
        never : (p : Place) → (is_of u (answer_at log s p) ≡ true) × (same_place p r ≡ true) → ⊥
        never p parts =
            let one : p ≡ r = place_one p r parts.1 in
            true≢false (sym parts.0 ∙ ap (λ (x : Place). is_of u (answer_at log s x)) one ∙ out)

    -- an answer that has its mark already
    pub same_marked : (h : Held E) (d : Bool) → get s r.entry ≡ Some h → Differs t u (answer_in log (Some h) r.at) (Some d) → slice_get h.marks.now r.at ≡ Some d → IsMarked log t (λ p. is_of u (answer_at log s p) && same_place p r) s s
    same_marked h d there is mark = record {
      answered = λ p e test at. tells p e (and_parts (is_of u (answer_at log s p)) (same_place p r) test) at;
      left = λ p test. refl;
    }
      where
        answered : (e : Query × AnswerKind) → answer_at log s r ≡ Some e → (differs : Bool) × (mark_at s r ≡ Some differs) × Tells t e differs
        answered e at = (d, ap (λ (o : Option (Held E)). mark_in o r.at) there ∙ mark, is.1 e (sym (ap (λ (o : Option (Held E)). answer_in log o r.at) there) ∙ at))

        tells : (p : Place) (e : Query × AnswerKind) → (is_of u (answer_at log s p) ≡ true) × (same_place p r ≡ true) → answer_at log s p ≡ Some e → (differs : Bool) × (mark_at s p ≡ Some differs) × Tells t e differs
        tells p e parts at = subst (λ (x : Place). answer_at log s x ≡ Some e → (differs : Bool) × (mark_at s x ≡ Some differs) × Tells t e differs) (sym (place_one p r parts.1)) (answered e) at

  module _ (s : Slab (Held E)) (h : Held E) (r : Place) (d : Bool) (sized : IsSized log s) (there : get s r.entry ≡ Some h) (is : Differs t u (answer_in log (Some h) r.at) (Some d)) where
    abbrev new : Slab (Held E)
    new = with_value s r.entry (with_mark h r.at d)

    answer : answer_at log s r ≡ answer_in log (Some h) r.at
    answer = ap (λ (o : Option (Held E)). answer_in log o r.at) there

    room : r.at < length h.marks.now
    room =
        let e = stored_at u (answer_in log (Some h) r.at) is.0 in
        let stored : slice_get (log h.entry) r.at ≡ Some e.0 = in_settled h.is_settled (slice_get (log h.entry) r.at) e.0 e.1 in
        rw ((sized r.entry h there).now) (slice_get_within (log h.entry) r.at e.0 stored)

    -- there is such a mark
    pub room_there : (g : Held E) → get s r.entry ≡ Some g → r.at < length g.marks.now
    room_there g at =
        let same : Some h ≡ Some g = sym there ∙ at in
        let one : h ≡ g = cc in
        subst (λ (x : Held E). r.at < length x.marks.now) one room

    answered : (e : Query × AnswerKind) → answer_at log s r ≡ Some e → (differs : Bool) × (mark_at new r ≡ Some differs) × Tells t e differs
    answered e at = (d, ap (λ (o : Option (Held E)). mark_in o r.at) (get-written s r.entry h (with_mark h r.at d) there) ∙ get_same h.marks.now r.at d room, is.1 e (sym answer ∙ at))

    left : (p : Place) → (is_of u (answer_at log s p) && same_place p r) ≡ false → mark_at new p ≡ mark_at s p
    left p out = by (nat_eq p.entry r.entry) refl
      where
        apart : p.entry ≡ r.entry → p.at ≡ r.at → ⊥
        apart e f =
            let same : same_place p r ≡ true = ap (λ (b : Bool). b && nat_eq p.at r.at) (eq-eqb p.entry r.entry e) ∙ eq-eqb p.at r.at f in
            let one : p ≡ r = place_one p r same in
            let its : is_of u (answer_at log s p) ≡ true = subst (λ (x : Place). is_of u (answer_at log s x) ≡ true) (sym one) (ap (is_of u) answer ∙ is.0) in
            let yes : (is_of u (answer_at log s p) && same_place p r) ≡ true = ap (λ (b : Bool). b && same_place p r) its ∙ same in
            true≢false (sym yes ∙ out)

        by : (b : Bool) → nat_eq p.entry r.entry ≡ b → mark_at new p ≡ mark_at s p
        by true b =
            let e = eqb-true p.entry r.entry b in
            ap (λ (x : ℕ). mark_in (get new x) p.at) e ∙ ap (λ (o : Option (Held E)). mark_in o p.at) (get-written s r.entry h (with_mark h r.at d) there)
            ∙ get_other h.marks.now r.at p.at d (apart e)
            ∙ sym (ap (λ (x : ℕ). mark_in (get s x) p.at) e ∙ ap (λ (o : Option (Held E)). mark_in o p.at) there)
        by false b = ap (λ (o : Option (Held E)). mark_in o p.at) (get-unwritten s r.entry p.entry (with_mark h r.at d) (eqb-false p.entry r.entry b))

    -- an answer whose mark is set
    pub one_marked : IsMarked log t (λ p. is_of u (answer_at log s p) && same_place p r) s (with_value s r.entry (with_mark h r.at d))
    one_marked = record {
      answered = λ p e test at. tells p e (and_parts (is_of u (answer_at log s p)) (same_place p r) test) at;
      left = left;
    }
      where
        tells : (p : Place) (e : Query × AnswerKind) → (is_of u (answer_at log s p) ≡ true) × (same_place p r ≡ true) → answer_at log s p ≡ Some e → (differs : Bool) × (mark_at new p ≡ Some differs) × Tells t e differs
        tells p e parts at = subst (λ (x : Place). answer_at log s x ≡ Some e → (differs : Bool) × (mark_at new x ≡ Some differs) × Tells t e differs) (sym (place_one p r parts.1)) (answered e) at

  answers_same : (o k : Option (Held E)) (i : ℕ) → option_map base k ≡ option_map base o → answer_in log k i ≡ answer_in log o i
  answers_same None None i e = refl
  answers_same (Some h) None i e = absurd (cc)
  answers_same None (Some h) i e = absurd (cc)
  answers_same (Some h) (Some g) i e = let same : base g ≡ base h = cc in ap (λ (x : Held E). answer_in log (Some x) i) same

  or_parts : (a b : Bool) → (a || b) ≡ true → ((b ≡ true) ⊎ ((b ≡ false) × (a ≡ true)))
  or_parts a true h = inl refl
  or_parts true false h = inr (refl, refl)
  or_parts false false h = absurd (cc)

  or_neither : (a b : Bool) → (a || b) ≡ false → (a ≡ false) × (b ≡ false)
  or_neither false false h = (refl, refl)
  or_neither false true h = absurd (cc)
  or_neither true b h = absurd (cc)

  spread : (x a b : Bool) → (x && (a || b)) ≡ ((x && a) || (x && b))
  spread true a b = refl
  spread false a b = refl

  or_none : (x : Bool) → (x || false) ≡ x
  or_none true = refl
  or_none false = refl

  module _ (old mid new : Slab (Held E)) (same : SameBase old mid) where
    answer_kept : (p : Place) → answer_at log mid p ≡ answer_at log old p
    answer_kept p = answers_same (get old p.entry) (get mid p.entry) p.at (same p.entry)

    -- some places, and then others
    both_marked : (one two all : Place → Bool) → IsMarked log t one old mid → IsMarked log t two mid new → ((p : Place) → all p ≡ (one p || two p)) → IsMarked log t all old new
    both_marked one two all first next both = record {
      answered = λ p e test at. told_by p e at (or_parts (one p) (two p) (sym (both p) ∙ test));
      left = λ p test. let parts = or_neither (one p) (two p) (sym (both p) ∙ test) in next.left p parts.1 ∙ first.left p parts.0;
    }
      where
        told_by : (p : Place) (e : Query × AnswerKind) → answer_at log old p ≡ Some e → ((two p ≡ true) ⊎ ((two p ≡ false) × (one p ≡ true))) → (differs : Bool) × (mark_at new p ≡ Some differs) × Tells t e differs
        told_by p e at (inl is) = next.answered p e is (answer_kept p ∙ at)
        told_by p e at (inr is) =
            let f = first.answered p e is.1 at in
            (f.0, next.left p is.0 ∙ f.1, f.2)

    -- one place more of a list
    pub more_marked : (places more : List Place) (r : Place) → more ≡ places ++ r ∷ [] → IsMarked log t (λ p. is_of u (answer_at log old p) && list_any (same_place p) places) old mid → IsMarked log t (λ p. is_of u (answer_at log mid p) && same_place p r) mid new → IsMarked log t (λ p. is_of u (answer_at log old p) && list_any (same_place p) more) old new
    more_marked places more r is first next =
        both_marked (λ p. is_of u (answer_at log old p) && list_any (same_place p) places) (λ p. is_of u (answer_at log mid p) && same_place p r) (λ p. is_of u (answer_at log old p) && list_any (same_place p) more) first next (λ p. all p)
      where
        all : (p : Place) → (is_of u (answer_at log old p) && list_any (same_place p) more) ≡ ((is_of u (answer_at log old p) && list_any (same_place p) places) || (is_of u (answer_at log mid p) && same_place p r))
        all p =
            ap (λ (l : List Place). is_of u (answer_at log old p) && list_any (same_place p) l) is
            ∙ ap (λ (b : Bool). is_of u (answer_at log old p) && b) (list_any-append (same_place p) places (r ∷ []) ∙ ap (λ (b : Bool). list_any (same_place p) places || b) (or_none (same_place p r)))
            ∙ spread (is_of u (answer_at log old p)) (list_any (same_place p) places) (same_place p r)
            ∙ ap (λ (b : Bool). (is_of u (answer_at log old p) && list_any (same_place p) places) || (b && same_place p r)) (ap (is_of u) (sym (answer_kept p)))

    pub did_same : (r : Place) (did : Bool) → did ≡ is_of u (answer_at log mid r) → did ≡ is_of u (answer_at log old r)
    did_same r did e = e ∙ ap (is_of u) (answer_kept r)

  and_no : (b : Bool) → (b && false) ≡ false
  and_no true = refl
  and_no false = refl

  -- no place
  pub none_marked : (s : Slab (Held E)) → IsMarked log t (λ p. is_of u (answer_at log s p) && list_any (same_place p) []) s s
  none_marked s = record {
    answered = λ p e test at. absurd (true≢false (sym test ∙ and_no (is_of u (answer_at log s p))));
    left = λ p test. refl;
  }

-- one more of a list for which a test holds
pub count_more : (test : Place → Bool) (places more : List Place) (r : Place) (did : Bool) (n : ℕ) → more ≡ places ++ r ∷ [] → did ≡ test r → n ≡ length (filter test places) → (n + (if did then 1 else 0)) ≡ length (filter test more)
count_more test places more r did n is d e =
    ap (λ (x : ℕ). x + (if did then 1 else 0)) e ∙ ap (λ (b : Bool). length (filter test places) + (if b then 1 else 0)) d
    ∙ by (test r) refl
    ∙ sym (ap (λ (l : List Place). length (filter test l)) is ∙ ap length (filter-append test places (r ∷ [])) ∙ length-append (filter test places) (filter test (r ∷ [])))
  where
    by : (b : Bool) → test r ≡ b → (length (filter test places) + (if test r then 1 else 0)) ≡ (length (filter test places) + length (filter test (r ∷ [])))
    by b e = ap (λ (x : ℕ). length (filter test places) + x) (one (test r))
      where
        one : (c : Bool) → (if c then 1 else 0) ≡ length (cond c (r ∷ []) [])
        one true = refl
        one false = refl

module _ {E : Type 0} (log : E → List (Query × AnswerKind)) where
  stored_same : (o k : Option (Held E)) (q : Query) (i : ℕ) → option_map base k ≡ option_map base o → option_map_or (λ (h : Held E). in_log (log h.entry) q i) k false ≡ option_map_or (λ (h : Held E). in_log (log h.entry) q i) o false
  stored_same None None q i e = refl
  stored_same (Some h) None q i e = absurd (cc)
  stored_same None (Some h) q i e = absurd (cc)
  stored_same (Some h) (Some g) q i e = let same : base g ≡ base h = cc in ap (λ (x : Held E). in_log (log x.entry) q i) same

  -- the index of entries that are the same
  pub indexed-same : (old new : Slab (Held E)) (readers : ByUnit) → IsIndexed log old readers → SameBase old new → IsSized log new → IsIndexed log new readers
  indexed-same old new readers is same sized = record {
    exact = λ q p. is.exact q p ∙ sym (stored_same (get old p.entry) (get new p.entry) q p.at (same p.entry));
    marked = sized;
  }

  module _ (slots : Slab (Held E)) (readers : ByUnit) (u : UnitKey) (places : List Place) (is : IsIndexed log slots readers) (found : (q : Query) (p : Place) → unit_of q ≡ u → reads readers q p ≡ true → list_any (same_place p) places ≡ true) where
    -- each place of an answer to a unit's question is found
    pub whole_places : (p : Place) → is_of u (answer_at log slots p) ≡ true → list_any (same_place p) places ≡ true
    whole_places p h = at (get slots p.entry) refl h
      where
        one : (k : Held E) (o : Option (Query × AnswerKind)) → get slots p.entry ≡ Some k → slice_get (log k.entry) p.at ≡ o → is_of u o ≡ true → list_any (same_place p) places ≡ true
        one k None there e i = absurd (true≢false (sym i))
        one k (Some e) there f i =
            let stored : is_stored log slots e.0 p ≡ true =
            ap (λ (o : Option (Held E)). option_map_or (λ (x : Held E). in_log (log x.entry) e.0 p.at) o false) there
            ∙ ap (λ (o : Option (Query × AnswerKind)). option_map_or (λ (x : Query × AnswerKind). same_query x.0 e.0) o false) f
            ∙ same_query-self e.0 in
            found e.0 p (same_unit-one (unit_of e.0) u i) (is.exact e.0 p ∙ stored)

        at : (o : Option (Held E)) → get slots p.entry ≡ o → is_of u (answer_in log o p.at) ≡ true → list_any (same_place p) places ≡ true
        at None e i = absurd (true≢false (sym i))
        at (Some k) e i = one k (slice_get (log k.entry) p.at) e refl (settled_is u k.is_settled (slice_get (log k.entry) p.at) i)

    pub all_marked : (t : Query → AnswerKind) (after : Slab (Held E)) → IsMarked log t (λ p. is_of u (answer_at log slots p) && list_any (same_place p) places) slots after → IsMarked log t (λ p. is_of u (answer_at log slots p)) slots after
    all_marked t after m = record {
      answered = λ p e test at. m.answered p e (yes p test) at;
      left = λ p test. m.left p (out p test);
    }
      where
        yes : (p : Place) → is_of u (answer_at log slots p) ≡ true → (is_of u (answer_at log slots p) && list_any (same_place p) places) ≡ true
        yes p h = ap (λ (b : Bool). b && list_any (same_place p) places) h ∙ whole_places p h

        out : (p : Place) → is_of u (answer_at log slots p) ≡ false → (is_of u (answer_at log slots p) && list_any (same_place p) places) ≡ false
        out p h = ap (λ (b : Bool). b && list_any (same_place p) places) h

or_no : (a b : Bool) → (a || b) ≡ false → (a ≡ false) × (b ≡ false)
or_no false false h = (refl, refl)
or_no false true h = absurd (cc)
or_no true b h = absurd (cc)

-- one key more is noted, and nothing else changed
noted_more : {E : Type 0} (s later : Slab (Held E)) (noted more : List ℕ) (k : ℕ) → more ≡ noted ++ k ∷ [] → ((x : ℕ) → (x ≡ k → ⊥) → get later x ≡ get s x) → AreUntouched s noted → AreUntouched later more
noted_more s later noted more k is others before x h there out =
    let parts = or_no (list_any (nat_eq x) noted) (list_any (nat_eq x) (k ∷ [])) (sym (ap (λ (l : List ℕ). list_any (nat_eq x) l) is ∙ list_any-append (nat_eq x) noted (k ∷ [])) ∙ out) in
    let apart = eqb-false x k (or_no (nat_eq x k) false parts.1).0 in
    before x h (sym (others x apart) ∙ there) parts.0

-- where one mark of now was set
module _ {E : Type 0} (s : Slab (Held E)) (k i : ℕ) (h : Held E) (d : Bool) (there : get s k ≡ Some h) where
  -- each answer has its marks still
  pub sized-marked : (log : E → List (Query × AnswerKind)) → IsSized log s → IsSized log (with_value s k (with_mark h i d))
  sized-marked log sized x y at = by (nat_eq x k) refl
    where
      by : (b : Bool) → nat_eq x k ≡ b → AreSized (log y.entry) y.marks
      by true e =
          let held : Some (with_mark h i d) ≡ Some y = sym (get-written s k h (with_mark h i d) there) ∙ ap (λ (z : ℕ). get (with_value s k (with_mark h i d)) z) (sym (eqb-true x k e)) ∙ at in
          let one : with_mark h i d ≡ y = cc in
          subst (λ (z : Held E). AreSized (log z.entry) z.marks) one (record { last = (sized k h there).last; now = length-set h.marks.now i d ∙ (sized k h there).now })
      by false e = sized x y (sym (get-unwritten s k x (with_mark h i d) (eqb-false x k e)) ∙ at)

  -- all else is the same
  pub base-marked : SameBase s (with_value s k (with_mark h i d))
  base-marked x = by (nat_eq x k) refl
    where
      by : (b : Bool) → nat_eq x k ≡ b → option_map base (get (with_value s k (with_mark h i d)) x) ≡ option_map base (get s x)
      by true e =
          let same = eqb-true x k e in
          ap (λ (z : ℕ). option_map base (get (with_value s k (with_mark h i d)) z)) same ∙ ap (option_map base) (get-written s k h (with_mark h i d) there)
          ∙ sym (ap (λ (z : ℕ). option_map base (get s z)) same ∙ ap (option_map base) there)
      by false e = ap (option_map base) (get-unwritten s k x (with_mark h i d) (eqb-false x k e))

  -- once its key is noted, the others have the marks of the last build
  pub noted-marked : (noted more : List ℕ) → more ≡ noted ++ k ∷ [] → AreUntouched s noted → AreUntouched (with_value s k (with_mark h i d)) more
  noted-marked noted more is before = noted_more s (with_value s k (with_mark h i d)) noted more k is (λ x apart. get-unwritten s k x (with_mark h i d) apart) before
