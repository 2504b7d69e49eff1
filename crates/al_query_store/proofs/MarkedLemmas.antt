-- Stores whose slots have other marks, or whose cells and slots are alike.
use Rattle.std.proofs.Common.{◌≡◌, ◌<◌, ◌+◌, ◌||◌, ◌++◌, ℕ, Bool, true, false, List, [], ◌∷◌, Option, Some, None, Result, Ok, Err, OnErr, refl, sym, ◌∙◌, ap, subst, length, slice_get, slice_index_or, take, arith, is_some, if◌then◌else◌}
use Rattle.std.specs.Option.{option_map}
use Rattle.std.proofs.lemmas.Bool.{true≢false}
use Rattle.std.proofs.lemmas.Grind.{common_steps}
use Rattle.std.proofs.lemmas.List.Folds.{list_any-append}
use Rattle.slab.specs.Slab.{Slab, get}
use Rattle.al_base.specs.declared.unit_key.UnitKey.{UnitKey}
use Rattle.al_view.specs.Symbols.{same_unit}
use Rattle.al_view.proofs.SymbolLemmas.{same_unit-one, same_unit-self}
use Rattle.al_query.specs.Known.{has_unit}
use Rattle.al_query.specs.Queries.{unit_of}
use Rattle.al_query.specs.declared.answer.AnswerKind.{AnswerKind}
use Rattle.al_query.specs.declared.query.Query.{Query}
use Rattle.al_query_store.specs.declared.place.Place.{Place}
use Rattle.al_query_store.specs.Marking.{IsMarked, IsSized, Tells, answer_at, answer_in, is_of, mark_at, mark_in}
use Rattle.al_query_store.specs.Stored.{HaveLastMarks, SameBase, base, kept}
use Rattle.al_query_store.specs.declared.slots.Held.{Held}
use Rattle.al_query_store.specs.declared.cell.Cell.{Cell}
use Rattle.al_query_store.specs.Changes.{AreCompared, AreMarkedAsBefore}
use Rattle.al_query_store.specs.Keyed.{AreCells, IsKeyed, SameStates, State, base_state, cell_at, if_made, if_settled, kept_state, made_key, nothing, seen, settled_key, settled_so, settled_state, state, under, with_slots}
use Rattle.al_query_store.proofs.KeyLemmas.{keyed-same}
use Rattle.al_query_store.proofs.StateLemmas.{Cells, state-seen}

-- keys whose values are there alike
keyed-present : {H : Type 0} (keys : UnitKey → Option ℕ) (at to : ℕ → Option H) → ((k : ℕ) → is_some (to k) ≡ is_some (at k)) → IsKeyed keys at → IsKeyed keys to
keyed-present {H = H} keys at to there is = record {
  found = λ u k a none. is.found u k a (none_by (at k) (sym (there k) ∙ ap is_some none));
  apart = is.apart;
  whole = λ k h a. some_by k (at k) refl (sym (there k) ∙ ap is_some a);
}
  where
    none_by : (o : Option H) → is_some o ≡ false → o ≡ None
    none_by None e = refl
    none_by (Some h) e = absurd (true≢false e)

    some_by : (k : ℕ) (o : Option H) → at k ≡ o → is_some o ≡ true → (u : UnitKey) × (keys u ≡ Some k)
    some_by k None is_ e = absurd (true≢false (sym e))
    some_by k (Some h) is_ e = is.whole k h is_

module _ {E : Type 0} where
  -- cells and slots that are alike
  pub cells-alike : (cells new : Cells) (s t : Slab (Held E)) → ((u : UnitKey) → cell_at new u ≡ cell_at cells u) → ((k : ℕ) → get t k ≡ get s k) → AreCells cells s → AreCells new t
  cells-alike cells new s t cell slot is = record {
    of_settled = keyed-same (settled_key cells) (settled_key new) (λ k. if_settled (get s k)) (λ k. if_settled (get t k)) (λ u. ap (λ (c : Cell). c.settled) (cell u)) (λ k. ap if_settled (slot k)) is.of_settled;
    of_made = keyed-same (made_key cells) (made_key new) (λ k. if_made (get s k)) (λ k. if_made (get t k)) (λ u. ap (λ (c : Cell). c.made) (cell u)) (λ k. ap if_made (slot k)) is.of_made;
  }

  under-alike : (s t : Slab (Held E)) → ((k : ℕ) → get t k ≡ get s k) → (o : Option ℕ) → under t o ≡ under s o
  under-alike s t slot None = refl
  under-alike s t slot (Some k) = slot k

  abbrev with_entries : Cell → Option (Held E) → Option (Held E) → State E
  with_entries c a b = record { settled = a; made = b; was_reached = c.was_reached; is_reached = c.is_reached; leaves = c.leaves }

  pub states-alike : (cells new : Cells) (s t : Slab (Held E)) → ((u : UnitKey) → cell_at new u ≡ cell_at cells u) → ((k : ℕ) → get t k ≡ get s k) → SameStates (with_slots cells s) (with_slots new t)
  states-alike cells new s t cell slot u =
      state-seen new t u ∙ ap (seen t) (cell u)
      ∙ ap (λ (o : Option (Held E)). with_entries (cell_at cells u) o (under t (cell_at cells u).made)) (under-alike s t slot (cell_at cells u).settled)
      ∙ ap (λ (o : Option (Held E)). with_entries (cell_at cells u) (under s (cell_at cells u).settled) o) (under-alike s t slot (cell_at cells u).made)
      ∙ sym (state-seen cells s u)

  -- what is held is the same but for marks
  module _ (f : Held E → Held E) (same : (h : Held E) → (f h).is_settled ≡ h.is_settled) where
    settled-mapped : (o : Option (Held E)) → is_some (if_settled (option_map f o)) ≡ is_some (if_settled o)
    settled-mapped None = refl
    settled-mapped (Some h) = by (f h).is_settled h.is_settled (same h)
      where
        by : (a b : Bool) → a ≡ b → is_some (if a then Some (f h) else None) ≡ is_some (if b then Some h else None)
        by true true e = refl
        by false false e = refl
        by true false e = absurd (true≢false e)
        by false true e = absurd (true≢false (sym e))

    made-mapped : (o : Option (Held E)) → is_some (if_made (option_map f o)) ≡ is_some (if_made o)
    made-mapped None = refl
    made-mapped (Some h) = by (f h).is_settled h.is_settled (same h)
      where
        by : (a b : Bool) → a ≡ b → is_some (if a then None else Some (f h)) ≡ is_some (if b then None else Some h)
        by true true e = refl
        by false false e = refl
        by true false e = absurd (true≢false e)
        by false true e = absurd (true≢false (sym e))

    pub cells-mapped : (cells : Cells) (s t : Slab (Held E)) → ((k : ℕ) → get t k ≡ option_map f (get s k)) → AreCells cells s → AreCells cells t
    cells-mapped cells s t to is = record {
      of_settled = keyed-present (settled_key cells) (λ k. if_settled (get s k)) (λ k. if_settled (get t k)) (λ k. ap (λ (o : Option (Held E)). is_some (if_settled o)) (to k) ∙ settled-mapped (get s k)) is.of_settled;
      of_made = keyed-present (made_key cells) (λ k. if_made (get s k)) (λ k. if_made (get t k)) (λ k. ap (λ (o : Option (Held E)). is_some (if_made o)) (to k) ∙ made-mapped (get s k)) is.of_made;
    }

    under-mapped : (s t : Slab (Held E)) → ((k : ℕ) → get t k ≡ option_map f (get s k)) → (o : Option ℕ) → under t o ≡ option_map f (under s o)
    under-mapped s t to None = refl
    under-mapped s t to (Some k) = to k

    pub seen-mapped : (s t : Slab (Held E)) → ((k : ℕ) → get t k ≡ option_map f (get s k)) → (c : Cell) → seen t c ≡ with_entries c (option_map f (under s c.settled)) (option_map f (under s c.made))
    seen-mapped s t to c =
        ap (λ (o : Option (Held E)). with_entries c o (under t c.made)) (under-mapped s t to c.settled)
        ∙ ap (λ (o : Option (Held E)). with_entries c (option_map f (under s c.settled)) o) (under-mapped s t to c.made)

  -- marks that are taken over, or put back
  pub cells-kept : (cells : Cells) (s t : Slab (Held E)) → ((k : ℕ) → get t k ≡ option_map kept (get s k)) → AreCells cells s → AreCells cells t
  cells-kept = cells-mapped kept (λ h. refl)

  pub cells-put_back : (cells : Cells) (s t : Slab (Held E)) → ((k : ℕ) → get t k ≡ option_map base (get s k)) → AreCells cells s → AreCells cells t
  cells-put_back = cells-mapped base (λ h. refl)

  pub state-kept : (cells : Cells) (s t : Slab (Held E)) → ((k : ℕ) → get t k ≡ option_map kept (get s k)) → (u : UnitKey) → state (with_slots cells t) u ≡ kept_state (state (with_slots cells s) u)
  state-kept cells s t to u = state-seen cells t u ∙ seen-mapped kept (λ h. refl) s t to (cell_at cells u) ∙ ap kept_state (sym (state-seen cells s u))

  pub state-put_back : (cells : Cells) (s t : Slab (Held E)) → ((k : ℕ) → get t k ≡ option_map base (get s k)) → (u : UnitKey) → state (with_slots cells t) u ≡ base_state (state (with_slots cells s) u)
  state-put_back cells s t to u = state-seen cells t u ∙ seen-mapped base (λ h. refl) s t to (cell_at cells u) ∙ ap base_state (sym (state-seen cells s u))

  -- marks of now that are others
  settled-based : (o n : Option (Held E)) → option_map base n ≡ option_map base o → is_some (if_settled n) ≡ is_some (if_settled o)
  settled-based o n e = sym (settled-mapped base (λ h. refl) n) ∙ ap (λ (x : Option (Held E)). is_some (if_settled x)) e ∙ settled-mapped base (λ h. refl) o

  made-based : (o n : Option (Held E)) → option_map base n ≡ option_map base o → is_some (if_made n) ≡ is_some (if_made o)
  made-based o n e = sym (made-mapped base (λ h. refl) n) ∙ ap (λ (x : Option (Held E)). is_some (if_made x)) e ∙ made-mapped base (λ h. refl) o

  pub cells-based : (cells : Cells) (s t : Slab (Held E)) → SameBase s t → AreCells cells s → AreCells cells t
  cells-based cells s t same is = record {
    of_settled = keyed-present (settled_key cells) (λ k. if_settled (get s k)) (λ k. if_settled (get t k)) (λ k. settled-based (get s k) (get t k) (same k)) is.of_settled;
    of_made = keyed-present (made_key cells) (λ k. if_made (get s k)) (λ k. if_made (get t k)) (λ k. made-based (get s k) (get t k) (same k)) is.of_made;
  }

  under-based : (s t : Slab (Held E)) → SameBase s t → (o : Option ℕ) → option_map base (under t o) ≡ option_map base (under s o)
  under-based s t same None = refl
  under-based s t same (Some k) = same k

  pub state-based : (cells : Cells) (s t : Slab (Held E)) → SameBase s t → (u : UnitKey) → base_state (state (with_slots cells t) u) ≡ base_state (state (with_slots cells s) u)
  state-based cells s t same u =
      let c = cell_at cells u in
      ap base_state (state-seen cells t u)
      ∙ ap (λ (o : Option (Held E)). with_entries c o (option_map base (under t c.made))) (under-based s t same c.settled)
      ∙ ap (λ (o : Option (Held E)). with_entries c (option_map base (under s c.settled)) o) (under-based s t same c.made)
      ∙ ap base_state (sym (state-seen cells s u))

  -- what is under the settled key of a unit is settled
  under-some : (s : Slab (Held E)) (o : Option ℕ) (h : Held E) → under s o ≡ Some h → (k : ℕ) × (o ≡ Some k) × (get s k ≡ Some h)
  under-some s None h e = absurd (cc)
  under-some s (Some k) h e = (k, refl, e)

  is-settled : (h : Held E) (b : Bool) → h.is_settled ≡ b → (if_settled (Some h) ≡ None → ⊥) → b ≡ true
  is-settled h true e there = refl
  is-settled h false e there = absurd (there (ap (λ (b : Bool). if b then Some h else None) e))

  module _ (log : E → List (Query × AnswerKind)) (t : Query → AnswerKind) (unit : UnitKey) (cells : Cells) (s n : Slab (Held E)) (is : AreCells cells s) (same : SameBase s n) (sized : IsSized log n) (m : IsMarked log t (λ p. is_of unit (answer_at log s p)) s n) where
    module _ (h g : Held E) (k : ℕ) (was : get s k ≡ Some h) (now : get n k ≡ Some g) (whole : h.is_settled ≡ true) where
      one : base g ≡ base h
      one =
          let both : Some (base g) ≡ Some (base h) = sym (ap (option_map base) now) ∙ same k ∙ ap (option_map base) was in
          cc

      abbrev place : ℕ → Place
      place i = record { entry = k; at = i }

      answer : (i : ℕ) → answer_at log s (place i) ≡ slice_get (log h.entry) i
      answer i = ap (λ (o : Option (Held E)). answer_in log o i) was ∙ ap (λ (b : Bool). if b then slice_get (log h.entry) i else None) whole

      mark : (i : ℕ) → mark_at n (place i) ≡ slice_get g.marks.now i
      mark i = ap (λ (o : Option (Held E)). mark_in o i) now

      before : (i : ℕ) → mark_at s (place i) ≡ slice_get h.marks.now i
      before i = ap (λ (o : Option (Held E)). mark_in o i) was

      test : (i : ℕ) (e : Query × AnswerKind) (b : Bool) → slice_get (log h.entry) i ≡ Some e → same_unit (unit_of e.0) unit ≡ b → is_of unit (answer_at log s (place i)) ≡ b
      test i e b at is_ = ap (is_of unit) (answer i ∙ at) ∙ is_

      answered : (i : ℕ) (e : Query × AnswerKind) → slice_get (log h.entry) i ≡ Some e → same_unit (unit_of e.0) unit ≡ true → (differs : Bool) × (slice_get g.marks.now i ≡ Some differs) × Tells t e differs
      answered i e at of_it = let d = m.answered (place i) e (test i e true at of_it) (answer i ∙ at) in (d.0, sym (mark i) ∙ d.1, d.2)

      pub compared-held : AreCompared t unit (log h.entry) h.marks.now g.marks.now
      compared-held = record {
        sized = (sized k g now).now ∙ ap (λ (x : Held E). length (log x.entry)) one;
        answered = answered;
        left = λ i e at out. sym (mark i) ∙ m.left (place i) (test i e false at out) ∙ before i;
      }

    pub compared-state : (u : UnitKey) (h g : Held E) → (state (with_slots cells s) u).settled ≡ Some h → (state (with_slots cells n) u).settled ≡ Some g → AreCompared t unit (log h.entry) h.marks.now g.marks.now
    compared-state u h g was now =
        let a = under-some s (settled_key cells u) h (sym (ap (λ (x : State E). x.settled) (state-seen cells s u)) ∙ was) in
        let b : under n (settled_key cells u) ≡ Some g = sym (ap (λ (x : State E). x.settled) (state-seen cells n u)) ∙ now in
        let here : get n a.0 ≡ Some g = sym (ap (under n) a.1) ∙ b in
        let there : if_settled (Some h) ≡ None → ⊥ = λ e. is.of_settled.found u a.0 a.1 (ap if_settled a.2 ∙ e) in
        compared-held h g a.0 a.2 here (is-settled h h.is_settled refl there)

-- a list of units, each changed in turn
turned-unit : (a b : UnitKey) → same_unit a b ≡ same_unit b a
turned-unit a b = by (same_unit a b) (same_unit b a) refl refl
  where
    by : (x y : Bool) → same_unit a b ≡ x → same_unit b a ≡ y → same_unit a b ≡ same_unit b a
    by true y e f = e ∙ sym (subst (λ (z : UnitKey). same_unit z a ≡ true) (same_unit-one a b e) (same_unit-self a))
    by false true e f = absurd (true≢false (sym (subst (λ (z : UnitKey). same_unit z b ≡ true) (same_unit-one b a f) (same_unit-self b)) ∙ e))
    by false false e f = e ∙ sym f

module _ {E : Type 0} (f : State E → State E) (twice : (s : State E) → f (f s) ≡ f s) where
  pub more-units : (moved more : List UnitKey) (unit u : UnitKey) (first mid now : State E) → more ≡ moved ++ unit ∷ [] → mid ≡ (if has_unit moved u then f first else first) → now ≡ (if same_unit unit u then f mid else mid) → now ≡ (if has_unit more u then f first else first)
  more-units moved more unit u first mid now is before after =
      after ∙ ap (λ (x : State E). if same_unit unit u then f x else x) before ∙ by (has_unit moved u) (same_unit unit u)
      ∙ sym (ap (λ (l : List UnitKey). if has_unit l u then f first else first) is ∙ ap (λ (b : Bool). if b then f first else first) (list_any-append (same_unit u) moved (unit ∷ []) ∙ ap (λ (b : Bool). has_unit moved u || (b || false)) (turned-unit u unit)))
    where
      by : (a b : Bool) → (if b then f (if a then f first else first) else (if a then f first else first)) ≡ (if (a || (b || false)) then f first else first)
      by true true = twice first
      by true false = refl
      by false true = refl
      by false false = refl

-- a build's end settles once
pub settled_twice : {E : Type 0} (s : State E) → settled_state (settled_state s) ≡ settled_state s
settled_twice s = by s.leaves
  where
    by : (b : Bool) → settled_state (if b then nothing else settled_so s) ≡ (if b then nothing else settled_so s)
    by true = refl
    by false = refl

item_added : (moved : List UnitKey) (i : ℕ) (d : UnitKey) → i < length moved → take (i + 1) moved ≡ take i moved ++ slice_index_or moved i d ∷ []
item_added moved i d h = grind (arith, common_steps, h)

pub one_unit : (moved : List UnitKey) (i : ℕ) (unit : UnitKey) → unit ≡ slice_index_or moved i unit → i < length moved → take (i + 1) moved ≡ take i moved ++ unit ∷ []
one_unit moved i unit is h = item_added moved i unit h ∙ ap (λ (x : UnitKey). take i moved ++ x ∷ []) (sym is)

-- what holds after an error holds if there is one
pub on_err : {T F P : Type 0} (r : Result T F) → P → OnErr r P
on_err (Ok x) p = tt
on_err (Err e) p = p

-- by unit the marks of now are those of the last build too
pub marked-before : {E : Type 0} (cells : Cells) (s : Slab (Held E)) → HaveLastMarks s → AreMarkedAsBefore (with_slots cells s)
marked-before {E = E} cells s is u h at = by (cell_at cells u).settled (sym (ap (λ (x : State E). x.settled) (state-seen cells s u)) ∙ at)
  where
    by : (key : Option ℕ) → under s key ≡ Some h → h.marks.now ≡ h.marks.last
    by None e = absurd (cc)
    by (Some k) e = is k h e
