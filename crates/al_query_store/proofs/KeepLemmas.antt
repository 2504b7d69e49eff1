-- What is held with its marks taken over or put back, or as settled.
use Rattle.std.proofs.Common.{◌≡◌, ◌⊎◌, ◌++◌, ◌+◌, ◌<◌, ◌||◌, ℕ, Bool, true, false, List, [], ◌∷◌, Option, Some, None, refl, sym, ◌∙◌, ap, subst, length, nat_eq, take, inl, inr, slice_index_or, arith, if◌then◌else◌}
use Rattle.std.specs.List.{list_any}
use Rattle.std.specs.Option.{option_map, option_map_or}
use Rattle.std.proofs.lemmas.Bool.{eqb-true, eqb-false}
use Rattle.std.proofs.lemmas.List.Folds.{list_any-append}
use Rattle.std.proofs.lemmas.Grind.{common_steps}
use Rattle.slab.specs.Slab.{Slab, get, with_value}
use Rattle.al_query.specs.declared.answer.AnswerKind.{AnswerKind}
use Rattle.al_query.specs.declared.query.Query.{Query}
use Rattle.al_query_store.specs.declared.place.Place.{Place}
use Rattle.al_query_store.proofs.ReadLemmas.{ByUnit}
use Rattle.al_query_store.specs.Marked.{Marked}
use Rattle.al_query_store.specs.Stored.{AreSized, AreUntouched, IsIndexed, base, in_log, kept, settled}
use Rattle.al_query_store.specs.declared.slots.Held.{Held}
use Rattle.al_query_store.proofs.MarkLemmas.{get-unwritten, get-written}

module _ {E : Type 0} (f : Held E → Held E) where
  -- one is changed
  pub one_changed : (s new : Slab (Held E)) (key : ℕ) (h g : Held E) → get s key ≡ Some h → g ≡ f h → new ≡ with_value s key g → (k : ℕ) → get new k ≡ (if nat_eq k key then option_map f (get s k) else get s k)
  one_changed s new key h g there is write k = ap (λ (x : Slab (Held E)). get x k) write ∙ by (nat_eq k key) refl
    where
      by : (b : Bool) → nat_eq k key ≡ b → get (with_value s key g) k ≡ (if b then option_map f (get s k) else get s k)
      by true e =
          let same = eqb-true k key e in
          ap (λ (x : ℕ). get (with_value s key g) x) same ∙ get-written s key h g there ∙ ap (λ (x : Held E). Some x) is
          ∙ sym (ap (λ (x : ℕ). option_map f (get s x)) same ∙ ap (option_map f) there)
      by false e = get-unwritten s key k g (eqb-false k key e)

  -- none is there
  pub none_changed : (s : Slab (Held E)) (key : ℕ) → get s key ≡ None → (k : ℕ) → get s k ≡ (if nat_eq k key then option_map f (get s k) else get s k)
  none_changed s key none k = by (nat_eq k key) refl
    where
      by : (b : Bool) → nat_eq k key ≡ b → get s k ≡ (if b then option_map f (get s k) else get s k)
      by true e =
          let gone : get s k ≡ None = ap (λ (x : ℕ). get s x) (eqb-true k key e) ∙ none in
          gone ∙ sym (ap (option_map f) gone)
      by false e = refl

  module _ (twice : (h : Held E) → f (f h) ≡ f h) where
    option_twice : (o : Option (Held E)) → option_map f (option_map f o) ≡ option_map f o
    option_twice None = refl
    option_twice (Some h) = ap (λ (x : Held E). Some x) (twice h)

    -- one key more of a list
    pub more_changed : (o m n : Option (Held E)) (keys more : List ℕ) (key k : ℕ) → more ≡ keys ++ key ∷ [] → m ≡ (if list_any (nat_eq k) keys then option_map f o else o) → n ≡ (if nat_eq k key then option_map f m else m) → n ≡ (if list_any (nat_eq k) more then option_map f o else o)
    more_changed o m n keys more key k is first next =
        next ∙ ap (λ (x : Option (Held E)). if nat_eq k key then option_map f x else x) first
        ∙ by (list_any (nat_eq k) keys) (nat_eq k key)
        ∙ sym (ap (λ (l : List ℕ). if list_any (nat_eq k) l then option_map f o else o) is ∙ ap (λ (b : Bool). if b then option_map f o else o) (list_any-append (nat_eq k) keys (key ∷ [])))
      where
        by : (a b : Bool) → (if b then option_map f (if a then option_map f o else o) else (if a then option_map f o else o)) ≡ (if (a || (b || false)) then option_map f o else o)
        by true true = option_twice o
        by true false = refl
        by false true = refl
        by false false = refl

pub one_more : (keys : List ℕ) (i d : ℕ) → i < length keys → take (i + 1) keys ≡ take i keys ++ slice_index_or keys i d ∷ []
one_more keys i d h = grind (arith, common_steps, h)

module _ {E : Type 0} (log : E → List (Query × AnswerKind)) (f : Held E → Held E) (same : (h : Held E) → (f h).entry ≡ h.entry) (sized : (h : Held E) → AreSized (log h.entry) h.marks → AreSized (log (f h).entry) (f h).marks) where
  -- the index of what was changed so
  pub indexed-changed : (old new : Slab (Held E)) (readers : ByUnit) → IsIndexed log old readers → ((k : ℕ) → (get new k ≡ option_map f (get old k)) ⊎ (get new k ≡ get old k)) → IsIndexed log new readers
  indexed-changed old new readers is by = record {
    exact = λ q p. is.exact q p ∙ sym (stored q p (get old p.entry) (get new p.entry) (by p.entry));
    marked = λ k h at. marks k h (get old k) refl (by k) at;
  }
    where
      in_held : Query → ℕ → Option (Held E) → Bool
      in_held q i o = option_map_or (λ (x : Held E). in_log (log x.entry) q i) o false

      mapped : (q : Query) (i : ℕ) (o : Option (Held E)) → in_held q i (option_map f o) ≡ in_held q i o
      mapped q i None = refl
      mapped q i (Some h) = ap (λ (e : E). in_log (log e) q i) (same h)

      stored : (q : Query) (p : Place) (o n : Option (Held E)) → (n ≡ option_map f o) ⊎ (n ≡ o) → in_held q p.at n ≡ in_held q p.at o
      stored q p o n (inl e) = ap (in_held q p.at) e ∙ mapped q p.at o
      stored q p o n (inr e) = ap (in_held q p.at) e

      marks : (k : ℕ) (h : Held E) (o : Option (Held E)) → get old k ≡ o → (get new k ≡ option_map f (get old k)) ⊎ (get new k ≡ get old k) → get new k ≡ Some h → AreSized (log h.entry) h.marks
      marks k h o was (inr e) at = is.marked k h (sym e ∙ at)
      marks k h None was (inl e) at =
          let none : get new k ≡ None = e ∙ ap (option_map f) was in
          absurd (cc)
      marks k h (Some g) was (inl e) at =
          let there : Some (f g) ≡ Some h = sym (e ∙ ap (option_map f) was) ∙ at in
          let one : f g ≡ h = cc in
          subst (λ (x : Held E). AreSized (log x.entry) x.marks) one (sized g (is.marked k g was))

-- whether it is changed or not
pub either : {E : Type 0} (f : Held E → Held E) (b : Bool) (o n : Option (Held E)) → n ≡ (if b then option_map f o else o) → (n ≡ option_map f o) ⊎ (n ≡ o)
either f true o n e = inl e
either f false o n e = inr e

module _ {E : Type 0} (log : E → List (Query × AnswerKind)) where
  settled_sized : (h : Held E) → AreSized (log h.entry) h.marks → AreSized (log (settled h).entry) (settled h).marks
  settled_sized h s = record { last = s.last; now = s.last }

  kept_sized : (h : Held E) → AreSized (log h.entry) h.marks → AreSized (log (kept h).entry) (kept h).marks
  kept_sized h s = record { last = s.now; now = s.now }

  base_sized : (h : Held E) → AreSized (log h.entry) h.marks → AreSized (log (base h).entry) (base h).marks
  base_sized h s = record { last = s.last; now = s.last }

  module _ (old new : Slab (Held E)) (readers : ByUnit) (is : IsIndexed log old readers) where
    pub indexed-settle : (key : ℕ) → ((k : ℕ) → get new k ≡ (if nat_eq k key then option_map settled (get old k) else get old k)) → IsIndexed log new readers
    indexed-settle key to = indexed-changed log settled (λ h. refl) settled_sized old new readers is (λ k. either settled (nat_eq k key) (get old k) (get new k) (to k))

    pub indexed-keep : (keys : List ℕ) → ((k : ℕ) → get new k ≡ (if list_any (nat_eq k) keys then option_map kept (get old k) else get old k)) → IsIndexed log new readers
    indexed-keep keys to = indexed-changed log kept (λ h. refl) kept_sized old new readers is (λ k. either kept (list_any (nat_eq k) keys) (get old k) (get new k) (to k))

    pub indexed-put_back : (keys : List ℕ) → ((k : ℕ) → get new k ≡ (if list_any (nat_eq k) keys then option_map base (get old k) else get old k)) → IsIndexed log new readers
    indexed-put_back keys to = indexed-changed log base (λ h. refl) base_sized old new readers is (λ k. either base (list_any (nat_eq k) keys) (get old k) (get new k) (to k))

module _ {E : Type 0} (f : Held E → Held E) (old new : Slab (Held E)) (noted : List ℕ) (before : AreUntouched old noted) where
  module _ (same : (h : Held E) → h.marks.now ≡ h.marks.last → f h ≡ h) (to : (k : ℕ) → get new k ≡ (if list_any (nat_eq k) noted then option_map f (get old k) else get old k)) where
    -- what wasn't touched is changed too, to what it is
    pub all_changed : (k : ℕ) → get new k ≡ option_map f (get old k)
    all_changed k = by (list_any (nat_eq k) noted) refl (get old k) refl
      where
        by : (b : Bool) → list_any (nat_eq k) noted ≡ b → (o : Option (Held E)) → get old k ≡ o → get new k ≡ option_map f (get old k)
        by true e o was = to k ∙ ap (λ (b : Bool). if b then option_map f (get old k) else get old k) e
        by false e None was = to k ∙ ap (λ (b : Bool). if b then option_map f (get old k) else get old k) e ∙ was ∙ sym (ap (option_map f) was)
        by false e (Some h) was =
            to k ∙ ap (λ (b : Bool). if b then option_map f (get old k) else get old k) e ∙ was
            ∙ ap (λ (x : Held E). Some x) (sym (same h (before k h was e)))
            ∙ sym (ap (option_map f) was)

    -- so nothing is touched any more
    pub none_touched : ((h : Held E) → (f h).marks.now ≡ (f h).marks.last) → (any : List ℕ) → AreUntouched new any
    none_touched alike any k g there out = by (get old k) refl
      where
        by : (o : Option (Held E)) → get old k ≡ o → g.marks.now ≡ g.marks.last
        by None was =
            let none : get new k ≡ None = all_changed k ∙ ap (option_map f) was in
            absurd (cc)
        by (Some h) was =
            let held : Some (f h) ≡ Some g = sym (all_changed k ∙ ap (option_map f) was) ∙ there in
            let one : f h ≡ g = cc in
            subst (λ (y : Held E). y.marks.now ≡ y.marks.last) one (alike h)

abbrev marked_so : List Bool → List Bool → Marked
marked_so a b = record { last = a; now = b }

-- marks that are as the last build's are the same when they are taken over or put back
module _ {E : Type 0} where
  abbrev with_marks : Held E → Marked → Held E
  with_marks h m = record { entry = h.entry; marks = m; is_settled = h.is_settled }

  pub kept_same : (h : Held E) → h.marks.now ≡ h.marks.last → kept h ≡ h
  kept_same h e = ap (λ (l : List Bool). with_marks h (marked_so l h.marks.now)) e

  pub base_same : (h : Held E) → h.marks.now ≡ h.marks.last → base h ≡ h
  base_same h e = ap (λ (l : List Bool). with_marks h (marked_so h.marks.last l)) (sym e)

  -- settling leaves the marks
  pub untouched-settle : (old new : Slab (Held E)) (noted : List ℕ) (key : ℕ) → ((k : ℕ) → get new k ≡ (if nat_eq k key then option_map settled (get old k) else get old k)) → AreUntouched old noted → AreUntouched new noted
  untouched-settle old new noted key to before k g there out = by (either settled (nat_eq k key) (get old k) (get new k) (to k)) (get old k) refl
    where
      by : (get new k ≡ option_map settled (get old k)) ⊎ (get new k ≡ get old k) → (o : Option (Held E)) → get old k ≡ o → g.marks.now ≡ g.marks.last
      by (inr e) o was = before k g (sym e ∙ there) out
      by (inl e) None was =
          let none : get new k ≡ None = e ∙ ap (option_map settled) was in
          absurd (cc)
      by (inl e) (Some h) was =
          let held : Some (settled h) ≡ Some g = sym (e ∙ ap (option_map settled) was) ∙ there in
          let one : settled h ≡ g = cc in
          subst (λ (y : Held E). y.marks.now ≡ y.marks.last) one refl
