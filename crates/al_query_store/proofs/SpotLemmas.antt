-- Places under keys as places of units' logs.
use Rattle.std.proofs.Common.{◌≡◌, ◌&&◌, ◌||◌, ℕ, suc, Bool, true, false, List, [], ◌∷◌, Option, Some, None, refl, sym, ◌∙◌, ap, subst, length, filter, cond, nat_eq, slice_get, if◌then◌else◌}
use Rattle.std.specs.List.{AllByRecursion, IsDistinct, list_any}
use Rattle.std.specs.Cmp.{IsEquivalence}
use Rattle.std.specs.Option.{option_and_then}
use Rattle.std.proofs.lemmas.Bool.{eq-eqb, eqb-true, true≢false}
use Rattle.slab.specs.Slab.{Slab, get}
use Rattle.al_base.specs.declared.unit_key.UnitKey.{UnitKey}
use Rattle.al_view.specs.Symbols.{same_unit}
use Rattle.al_view.proofs.SymbolLemmas.{same_unit-one, same_unit-self}
use Rattle.al_query.specs.declared.answer.AnswerKind.{AnswerKind}
use Rattle.al_query.specs.declared.query.Query.{Query}
use Rattle.al_query_store.specs.declared.place.Place.{Place}
use Rattle.al_query_store.specs.Reads.{same_place}
use Rattle.al_query_store.proofs.PlaceLemmas.{same_place-turned}
use Rattle.al_query_store.specs.Counting.{IsCount}
use Rattle.al_query_store.specs.Marking.{answer_at, answer_in, is_of}
use Rattle.al_query_store.specs.declared.slots.Held.{Held}
use Rattle.al_query_store.proofs.CountLemmas.{filter_distinct, member_is}
use Rattle.al_query_store.proofs.MarkLemmas.{place_one}
use Rattle.al_query_store.specs.Changes.{HasAnswers, Spot, answer_of, asks, same_spot}
use Rattle.al_query_store.specs.Keyed.{AreCells, State, if_settled, settled_key, under, with_slots}
use Rattle.al_query_store.proofs.StateLemmas.{Cells, state-seen}

and_two : (a b : Bool) → (a && b) ≡ true → (a ≡ true) × (b ≡ true)
and_two true true h = (refl, refl)
and_two true false h = absurd (cc)
and_two false b h = absurd (cc)

pub spot_one : (a b : Spot) → same_spot a b ≡ true → a ≡ b
spot_one a b h =
    let parts = and_two (same_unit a.unit b.unit) (nat_eq a.at b.at) h in
    let make : UnitKey → ℕ → Spot = λ u i. record { unit = u; at = i } in
    ap (λ (u : UnitKey). make u a.at) (same_unit-one a.unit b.unit parts.0) ∙ ap (λ (i : ℕ). make b.unit i) (eqb-true a.at b.at parts.1)

spot_self : (a : Spot) → same_spot a a ≡ true
spot_self a = ap (λ (b : Bool). b && nat_eq a.at a.at) (same_unit-self a.unit) ∙ eq-eqb a.at a.at refl

spot_turned : (a b : Spot) → same_spot a b ≡ same_spot b a
spot_turned a b = by (same_spot a b) (same_spot b a) refl refl
  where
    by : (x y : Bool) → same_spot a b ≡ x → same_spot b a ≡ y → same_spot a b ≡ same_spot b a
    by true y e f = e ∙ sym (subst (λ (z : Spot). same_spot z a ≡ true) (spot_one a b e) (spot_self a))
    by false true e f = absurd (true≢false (sym (subst (λ (z : Spot). same_spot z b ≡ true) (spot_one b a f) (spot_self b)) ∙ e))
    by false false e f = e ∙ sym f

pub spot_equiv : IsEquivalence same_spot
spot_equiv = record {
  refl = spot_self;
  symm = spot_turned;
  congr = λ a b q h. ap (λ (x : Spot). same_spot x q) (spot_one a b h);
}

place_self : (a : Place) → same_place a a ≡ true
place_self a = ap (λ (b : Bool). b && nat_eq a.at a.at) (eq-eqb a.entry a.entry refl) ∙ eq-eqb a.at a.at refl

place_equiv : IsEquivalence same_place
place_equiv = record {
  refl = place_self;
  symm = same_place-turned;
  congr = λ a b q h. ap (λ (x : Place). same_place x q) (place_one a b h);
}

module _ {X : Type 0} where
  -- those of a list for which a test holds
  all_true : (test : X → Bool) (xs : List X) → AllByRecursion (λ x. test x ≡ true) (filter test xs)
  all_true test [] = tt
  all_true test (x ∷ xs) = by (test x) refl (all_true test xs)
    where
      by : (b : Bool) → test x ≡ b → AllByRecursion (λ y. test y ≡ true) (filter test xs) → AllByRecursion (λ y. test y ≡ true) (cond b (x ∷ filter test xs) (filter test xs))
      by true e rest = (e, rest)
      by false e rest = rest

  filter_all : (test : X → Bool) (xs : List X) → AllByRecursion (λ x. test x ≡ true) xs → filter test xs ≡ xs
  filter_all test [] a = refl
  filter_all test (x ∷ xs) a = ap (λ (b : Bool). cond b (x ∷ filter test xs) (filter test xs)) a.0 ∙ ap (λ (l : List X). x ∷ l) (filter_all test xs a.1)

module _ {E : Type 0} (log : E → List (Query × AnswerKind)) (unit : UnitKey) (cells : Cells) (s : Slab (Held E)) (is : AreCells cells s) where
  abbrev test : Place → Bool
  test p = is_of unit (answer_at log s p)

  abbrev of_spot : Spot → Bool
  of_spot x = asks (λ u. same_unit u unit) (answer_of log (with_slots cells s) x)

  -- what is stored at a place that the test holds for
  record Stored_at (p : Place) : Type 0 where
    held : Held E
    there : get s p.entry ≡ Some held
    settled : if_settled (Some held) ≡ Some held
    asked : is_of unit (slice_get (log held.entry) p.at) ≡ true

  stored : (p : Place) → test p ≡ true → Stored_at p
  stored p h = by (get s p.entry) refl h
    where
      whole : (k : Held E) (b : Bool) → k.is_settled ≡ b → get s p.entry ≡ Some k → is_of unit (if b then slice_get (log k.entry) p.at else None) ≡ true → Stored_at p
      whole k true e there a = record { held = k; there = there; settled = ap (λ (b : Bool). if b then Some k else None) e; asked = a }
      whole k false e there a = absurd (true≢false (sym a))

      by : (o : Option (Held E)) → get s p.entry ≡ o → is_of unit (answer_in log o p.at) ≡ true → Stored_at p
      by None e a = absurd (true≢false (sym a))
      by (Some k) e a = whole k k.is_settled refl e a

  unit_at : (p : Place) → test p ≡ true → (u : UnitKey) × (settled_key cells u ≡ Some p.entry)
  unit_at p h = let w = stored p h in is.of_settled.whole p.entry w.held (ap if_settled w.there ∙ w.settled)

  spot_of : (p : Place) → test p ≡ true → Spot
  spot_of p h = record { unit = (unit_at p h).0; at = p.at }

  answer : (u : UnitKey) (k i : ℕ) (h : Held E) → settled_key cells u ≡ Some k → get s k ≡ Some h → answer_of log (with_slots cells s) (record { unit = u; at = i }) ≡ slice_get (log h.entry) i
  answer u k i h key there =
      ap (λ (o : Option (Held E)). option_and_then (λ (x : Held E). slice_get (log x.entry) i) o)
      (ap (λ (x : State E). x.settled) (state-seen cells s u) ∙ ap (under s) key ∙ there)

  holds : (p : Place) (h : test p ≡ true) → of_spot (spot_of p h) ≡ true
  unfolding spot_of
  holds p h =
      let w = stored p h in
      let u = unit_at p h in
      ap (asks (λ v. same_unit v unit)) (answer u.0 p.entry p.at w.held u.1 w.there) ∙ w.asked

  spots : (ps : List Place) → AllByRecursion (λ p. test p ≡ true) ps → List Spot
  spots [] a = []
  spots (p ∷ ps) a = spot_of p a.0 ∷ spots ps a.1

  spots-long : (ps : List Place) (a : AllByRecursion (λ p. test p ≡ true) ps) → length (spots ps a) ≡ length ps
  unfolding spots
  spots-long [] a = refl
  spots-long (p ∷ ps) a = ap (λ (n : ℕ). suc n) (spots-long ps a.1)

  spots-hold : (ps : List Place) (a : AllByRecursion (λ p. test p ≡ true) ps) → AllByRecursion (λ x. of_spot x ≡ true) (spots ps a)
  unfolding spots
  spots-hold [] a = tt
  spots-hold (p ∷ ps) a = (holds p a.0, spots-hold ps a.1)

  one_entry : (x y : ℕ) → Some x ≡ Some y → x ≡ y
  one_entry x y e = cc

  -- other places are other spots
  apart_spots : (p q : Place) (h : test p ≡ true) (g : test q ≡ true) → same_place p q ≡ false → same_spot (spot_of p h) (spot_of q g) ≡ false
  unfolding spot_of
  apart_spots p q h g out = by (same_spot (spot_of p h) (spot_of q g)) refl
    where
      by : (b : Bool) → same_spot (spot_of p h) (spot_of q g) ≡ b → b ≡ false
      by false e = refl
      by true e =
          let parts = and_two (same_unit (unit_at p h).0 (unit_at q g).0) (nat_eq p.at q.at) e in
          let key : settled_key cells (unit_at q g).0 ≡ Some p.entry = subst (λ (u : UnitKey). settled_key cells u ≡ Some p.entry) (same_unit-one (unit_at p h).0 (unit_at q g).0 parts.0) (unit_at p h).1 in
          let entries : p.entry ≡ q.entry = one_entry p.entry q.entry (sym key ∙ (unit_at q g).1) in
          absurd (true≢false (sym (ap (λ (b : Bool). b && nat_eq p.at q.at) (eq-eqb p.entry q.entry entries) ∙ parts.1) ∙ out))

  apart_all : (p : Place) (h : test p ≡ true) (ps : List Place) (a : AllByRecursion (λ q. test q ≡ true) ps) → AllByRecursion (λ q. same_place p q ≡ false) ps → AllByRecursion (λ x. same_spot (spot_of p h) x ≡ false) (spots ps a)
  unfolding spots
  apart_all p h [] a out = tt
  apart_all p h (q ∷ ps) a out = (apart_spots p q h a.0 out.0, apart_all p h ps a.1 out.1)

  spots-apart : (ps : List Place) (a : AllByRecursion (λ p. test p ≡ true) ps) → IsDistinct same_place ps → IsDistinct same_spot (spots ps a)
  unfolding spots IsDistinct
  spots-apart [] a d = tt
  spots-apart (p ∷ ps) a d = (apart_all p a.0 ps a.1 d.0, spots-apart ps a.1 d.1)

  -- a spot whose place is among those
  member : (u : UnitKey) (q : Place) → settled_key cells u ≡ Some q.entry → (ps : List Place) (a : AllByRecursion (λ p. test p ≡ true) ps) → list_any (same_place q) ps ≡ true → list_any (same_spot (record { unit = u; at = q.at })) (spots ps a) ≡ true
  unfolding spots spot_of
  member u q key [] a h = h
  member u q key (p ∷ ps) a h = by (same_place q p) refl h (member u q key ps a.1)
    where
      or_true : (a b : Bool) → b ≡ true → (a || b) ≡ true
      or_true true b e = refl
      or_true false b e = e

      by : (b : Bool) → same_place q p ≡ b → (b || list_any (same_place q) ps) ≡ true → (list_any (same_place q) ps ≡ true → list_any (same_spot (record { unit = u; at = q.at })) (spots ps a.1) ≡ true) → list_any (same_spot (record { unit = u; at = q.at })) (spots (p ∷ ps) a) ≡ true
      by true e k rest =
          let one : q ≡ p = place_one q p e in
          let there = unit_at p a.0 in
          let units : u ≡ there.0 = is.of_settled.apart u there.0 p.entry (key ∙ ap (λ (x : Place). Some x.entry) one) there.1 in
          let same : same_spot (record { unit = u; at = q.at }) (spot_of p a.0) ≡ true =
          ap (λ (b : Bool). b && nat_eq q.at p.at) (subst (λ (v : UnitKey). same_unit u v ≡ true) units (same_unit-self u)) ∙ eq-eqb q.at p.at (ap (λ (x : Place). x.at) one) in
          ap (λ (b : Bool). b || list_any (same_spot (record { unit = u; at = q.at })) (spots ps a.1)) same
      by false e k rest = or_true (same_spot (record { unit = u; at = q.at }) (spot_of p a.0)) (list_any (same_spot (record { unit = u; at = q.at })) (spots ps a.1)) (rest k)

  module _ (n : ℕ) (count : IsCount same_place test n) where
    abbrev held_places : List Place
    held_places = filter test count.items

    whole : (x : Spot) → of_spot x ≡ true → list_any (same_spot x) (spots held_places (all_true test count.items)) ≡ true
    whole x h = at (settled_key cells x.unit) refl (under s (settled_key cells x.unit)) refl h
      where
        seen_so : of_spot x ≡ asks (λ v. same_unit v unit) (option_and_then (λ (y : Held E). slice_get (log y.entry) x.at) (under s (settled_key cells x.unit)))
        seen_so = ap (λ (o : Option (Held E)). asks (λ v. same_unit v unit) (option_and_then (λ (y : Held E). slice_get (log y.entry) x.at) o)) (ap (λ (y : State E). y.settled) (state-seen cells s x.unit))

        at : (key : Option ℕ) → settled_key cells x.unit ≡ key → (o : Option (Held E)) → under s (settled_key cells x.unit) ≡ o → of_spot x ≡ true → list_any (same_spot x) (spots held_places (all_true test count.items)) ≡ true
        at key k None e a = absurd (true≢false (sym a ∙ seen_so ∙ ap (λ (o : Option (Held E)). asks (λ v. same_unit v unit) (option_and_then (λ (y : Held E). slice_get (log y.entry) x.at) o)) e))
        at None k (Some y) e a =
            let none : under s (settled_key cells x.unit) ≡ None = ap (under s) k in
            absurd (cc)
        at (Some j) k (Some y) e a =
            let place : Place = record { entry = j; at = x.at } in
            let there : get s j ≡ Some y = sym (ap (under s) k) ∙ e in
            let asked : is_of unit (slice_get (log y.entry) x.at) ≡ true = sym (seen_so ∙ ap (λ (o : Option (Held E)). asks (λ v. same_unit v unit) (option_and_then (λ (z : Held E). slice_get (log z.entry) x.at) o)) e) ∙ a in
            let yes : test place ≡ true = ap (λ (o : Option (Held E)). is_of unit (answer_in log o x.at)) there ∙ settled_so y y.is_settled refl asked (λ none. is.of_settled.found x.unit j k (ap if_settled there ∙ none)) in
            member x.unit place k held_places (all_true test count.items) (member_is same_place place_equiv place_one test count.items count.whole place ∙ yes)
          where
            settled_so : (y : Held E) (b : Bool) → y.is_settled ≡ b → is_of unit (slice_get (log y.entry) x.at) ≡ true → (if_settled (Some y) ≡ None → ⊥) → is_of unit (answer_in log (Some y) x.at) ≡ true
            settled_so y true e asked there = ap (λ (b : Bool). is_of unit (if b then slice_get (log y.entry) x.at else None)) e ∙ asked
            settled_so y false e asked there = absurd (there (ap (λ (b : Bool). if b then Some y else None) e))

    pub has-answers : HasAnswers log (λ u. true) (λ u. same_unit u unit) (with_slots cells s) n
    has-answers = record {
      items = spots held_places (all_true test count.items);
      apart = spots-apart held_places (all_true test count.items) (filter_distinct same_place place_equiv place_one test count.items count.apart);
      whole = whole;
      counted = count.counted ∙ sym (spots-long held_places (all_true test count.items)) ∙ ap length (sym (filter_all of_spot (spots held_places (all_true test count.items)) (spots-hold held_places (all_true test count.items))));
    }
