-- The index of entries, where one is held more or one less.
use Rattle.std.proofs.Common.{◌≡◌, ◌⊎◌, ℕ, Bool, true, false, ◌&&◌, ◌||◌, not, List, Option, Some, None, refl, sym, ◌∙◌, ap, subst, length, nat_eq, inl, inr}
use Rattle.std.specs.BTreeSet.{BTreeSet}
use Rattle.std.specs.Option.{option_map_or}
use Rattle.std.proofs.lemmas.Bool.{eqb-true, eqb-false, cases_eq}
use Rattle.slab.specs.Slab.{Slab, Updates, get}
use Rattle.al_base.specs.declared.unit_key.UnitKey.{UnitKey}
use Rattle.al_query.specs.declared.answer.AnswerKind.{AnswerKind}
use Rattle.al_query.specs.declared.query.Query.{Query}
use Rattle.al_query_store.specs.declared.place.Place.{Place}
use Rattle.al_query_store.specs.Reads.{reads}
use Rattle.al_query_store.specs.declared.slots.Held.{Held}
use Rattle.al_query_store.specs.Stored.{AreSized, AreUntouched, IsIndexed, in_log, is_stored}

module _ {E : Type 0} (log : E → List (Query × AnswerKind)) where
  abbrev pub Readers : Type 0
  Readers = List (UnitKey × List (Query × BTreeSet Place))

  -- whether what is under a key has such an answer
  abbrev pub held_at : Option (Held E) → Query → Place → Bool
  held_at o q p = option_map_or (λ h. in_log (log h.entry) q p.at) o false

  -- where nothing is under a key, the index leads to none of its places
  pub none_there : (slots : Slab (Held E)) (readers : Readers) (k : ℕ) → IsIndexed log slots readers → get slots k ≡ None → (q : Query) (p : Place) → nat_eq k p.entry ≡ true → reads readers q p ≡ false
  none_there slots readers k is none q p h =
      is.exact q p ∙ ap (λ (o : Option (Held E)). held_at o q p) (subst (λ (x : ℕ). get slots x ≡ None) (eqb-true k p.entry h) none)

  module _ (old new : Slab (Held E)) (before after : Readers) (k : ℕ) (h : Held E) (is : IsIndexed log old before) where
    other : (slot : Option (Held E)) → Updates old new k slot → (q : Query) (p : Place) → nat_eq k p.entry ≡ false → reads before q p ≡ is_stored log new q p
    other slot u q p e = is.exact q p ∙ ap (λ (o : Option (Held E)). held_at o q p) (sym (u.others p.entry (λ s. eqb-false k p.entry e (sym s))))

    pub indexed-insert : get old k ≡ None → Updates old new k (Some h) → AreSized (log h.entry) h.marks → ((q : Query) (p : Place) → reads after q p ≡ (reads before q p || (nat_eq k p.entry && in_log (log h.entry) q p.at))) → IsIndexed log new after
    indexed-insert none u sized entered = record {
      exact = λ q p. entered q p ∙ by q p (nat_eq k p.entry) refl;
      marked = λ x g at. sized_at x g at (cases_eq x k);
    }
      where
        by : (q : Query) (p : Place) (b : Bool) → nat_eq k p.entry ≡ b → (reads before q p || (b && in_log (log h.entry) q p.at)) ≡ is_stored log new q p
        by q p true e =
            let here : get new p.entry ≡ Some h = subst (λ (x : ℕ). get new x ≡ Some h) (eqb-true k p.entry e) u.changed in
            ap (λ (b : Bool). b || in_log (log h.entry) q p.at) (none_there old before k is none q p e)
            ∙ sym (ap (λ (o : Option (Held E)). held_at o q p) here)
        by q p false e = or_false (reads before q p) ∙ other (Some h) u q p e
          where
            or_false : (b : Bool) → (b || false) ≡ b
            or_false true = refl
            or_false false = refl

        sized_at : (x : ℕ) (g : Held E) → get new x ≡ Some g → (x ≡ k) ⊎ (x ≡ k → ⊥) → AreSized (log g.entry) g.marks
        sized_at x g at (inl s) =
            let there : Some h ≡ Some g = sym u.changed ∙ ap (λ (y : ℕ). get new y) (sym s) ∙ at in
            let same : h ≡ g = cc in
            subst (λ (y : Held E). AreSized (log y.entry) y.marks) same sized
        sized_at x g at (inr d) = is.marked x g (sym (u.others x d) ∙ at)

    pub indexed-remove : get old k ≡ Some h → Updates old new k None → ((q : Query) (p : Place) → reads after q p ≡ (reads before q p && not (nat_eq k p.entry && in_log (log h.entry) q p.at))) → IsIndexed log new after
    indexed-remove there u taken = record {
      exact = λ q p. taken q p ∙ by q p (nat_eq k p.entry) refl;
      marked = λ x g at. sized_at x g at (cases_eq x k);
    }
      where
        by : (q : Query) (p : Place) (b : Bool) → nat_eq k p.entry ≡ b → (reads before q p && not (b && in_log (log h.entry) q p.at)) ≡ is_stored log new q p
        by q p true e =
            let gone : get new p.entry ≡ None = subst (λ (x : ℕ). get new x ≡ None) (eqb-true k p.entry e) u.changed in
            let was : get old p.entry ≡ Some h = subst (λ (x : ℕ). get old x ≡ Some h) (eqb-true k p.entry e) there in
            ap (λ (b : Bool). b && not (in_log (log h.entry) q p.at)) (is.exact q p ∙ ap (λ (o : Option (Held E)). held_at o q p) was)
            ∙ never (in_log (log h.entry) q p.at)
            ∙ sym (ap (λ (o : Option (Held E)). held_at o q p) gone)
          where
            never : (b : Bool) → (b && not b) ≡ false
            never true = refl
            never false = refl
        by q p false e = and_true (reads before q p) ∙ other None u q p e
          where
            and_true : (b : Bool) → (b && not false) ≡ b
            and_true true = refl
            and_true false = refl

        sized_at : (x : ℕ) (g : Held E) → get new x ≡ Some g → (x ≡ k) ⊎ (x ≡ k → ⊥) → AreSized (log g.entry) g.marks
        sized_at x g at (inl s) =
            let no : None ≡ Some g = sym u.changed ∙ ap (λ (y : ℕ). get new y) (sym s) ∙ at in
            absurd (cc)
        sized_at x g at (inr d) = is.marked x g (sym (u.others x d) ∙ at)

module _ {E : Type 0} (old new : Slab (Held E)) (noted : List ℕ) (k : ℕ) where
  -- one that has the marks of the last build, more or less
  pub untouched-insert : (h : Held E) → h.marks.now ≡ h.marks.last → Updates old new k (Some h) → AreUntouched old noted → AreUntouched new noted
  untouched-insert h same u before x g there out = by (cases_eq x k)
    where
      by : (x ≡ k) ⊎ (x ≡ k → ⊥) → g.marks.now ≡ g.marks.last
      by (inl e) =
          let held : Some h ≡ Some g = sym u.changed ∙ ap (λ (y : ℕ). get new y) (sym e) ∙ there in
          let one : h ≡ g = cc in
          subst (λ (y : Held E). y.marks.now ≡ y.marks.last) one same
      by (inr d) = before x g (sym (u.others x d) ∙ there) out

  pub untouched-remove : Updates old new k None → AreUntouched old noted → AreUntouched new noted
  untouched-remove u before x g there out = by (cases_eq x k)
    where
      by : (x ≡ k) ⊎ (x ≡ k → ⊥) → g.marks.now ≡ g.marks.last
      by (inl e) =
          let none : None ≡ Some g = sym u.changed ∙ ap (λ (y : ℕ). get new y) (sym e) ∙ there in
          absurd (cc)
      by (inr d) = before x g (sym (u.others x d) ∙ there) out

-- slots that hold the same
module _ {E : Type 0} (old new : Slab (Held E)) (same : (k : ℕ) → get new k ≡ get old k) where
  pub indexed-values : (log : E → List (Query × AnswerKind)) (before after : List (UnitKey × List (Query × BTreeSet Place))) → ((q : Query) (p : Place) → reads after q p ≡ reads before q p) → IsIndexed log old before → IsIndexed log new after
  indexed-values log before after alike is = record {
    exact = λ q p. alike q p ∙ is.exact q p ∙ sym (ap (λ (o : Option (Held E)). held_at log o q p) (same p.entry));
    marked = λ k h at. is.marked k h (sym (same k) ∙ at);
  }

  pub untouched-values : (noted : List ℕ) → AreUntouched old noted → AreUntouched new noted
  untouched-values noted before k h at out = before k h (sym (same k) ∙ at) out
