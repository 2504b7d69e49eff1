-- The order of places tells the same places as the test does.
use Rattle.std.proofs.Common.{◌≡◌, ℕ, Bool, true, false, ◌&&◌, ◌||◌, not, List, [], ◌∷◌, refl, sym, ◌∙◌, ap, cond, nat_eq, nat_lt, ◌<◌, arith}
use Rattle.std.proofs.lemmas.Bool.{ltb-true, eqb-true, eqb-false, eq-eqb, ne_eqb}
use Rattle.std.specs.Ordering.{is_eq, ordering_then, nat_cmp}
use Rattle.std.specs.declared.cmp.Ordering.{Ordering}
use Rattle.std.specs.declared.cmp.Ordering.TheVariants.{Less, Equal, Greater}
use Rattle.std.specs.BTreeMap.{is_at}
use Rattle.std.specs.List.{list_any}
use Rattle.al_query_store.specs.declared.place.Place.{Place}
use Rattle.al_query_store.specs.Reads.{same_place}

is_eq-nat_cmp : (a b : ℕ) → is_eq (nat_cmp a b) ≡ nat_eq a b
is_eq-nat_cmp a b = by (nat_lt a b) (nat_eq a b) refl refl
  where
    by : (l e : Bool) → nat_lt a b ≡ l → nat_eq a b ≡ e → is_eq (cond l Less (cond e Equal Greater)) ≡ e
    by true true h j =
        let less : a < b = ltb-true a b h in
        let same : a ≡ b = eqb-true a b j in
        absurd (omega arith)
    by true false h j = refl
    by false true h j = refl
    by false false h j = refl

then_eq : (o k : Ordering) → is_eq (ordering_then o k) ≡ (is_eq o && is_eq k)
then_eq Less k = refl
then_eq Equal k = refl
then_eq Greater k = refl

module _ (R : Place → Place → Ordering) where
  -- the order is by entries, and of one entry by the place in its log
  abbrev pub IsByPlace : Type 0
  IsByPlace = (a b : Place) → R a b ≡ ordering_then (nat_cmp a.entry b.entry) (nat_cmp a.at b.at)

  module _ (by_place : IsByPlace) where
    pub tells : (a b : Place) → is_eq (R a b) ≡ same_place a b
    tells a b =
        ap is_eq (by_place a b) ∙ then_eq (nat_cmp a.entry b.entry) (nat_cmp a.at b.at)
        ∙ ap (λ (x : Bool). x && is_eq (nat_cmp a.at b.at)) (is_eq-nat_cmp a.entry b.entry)
        ∙ ap (λ (x : Bool). nat_eq a.entry b.entry && x) (is_eq-nat_cmp a.at b.at)

    any_tells : (p : Place) (ks : List Place) → list_any (is_at (R p)) ks ≡ list_any (same_place p) ks
    any_tells p [] = refl
    any_tells p (k ∷ ks) = ap (λ (x : Bool). x || list_any (is_at (R p)) ks) (tells p k) ∙ ap (λ (x : Bool). same_place p k || x) (any_tells p ks)

    by_cond : (b c : Bool) → cond b true c ≡ (c || b)
    by_cond true true = refl
    by_cond true false = refl
    by_cond false true = refl
    by_cond false false = refl

    by_cond_not : (b c : Bool) → cond b false c ≡ (c && not b)
    by_cond_not true true = refl
    by_cond_not true false = refl
    by_cond_not false true = refl
    by_cond_not false false = refl

    -- a place more among these
    pub inserted : (old new : List Place) (k p : Place) → list_any (is_at (R p)) new ≡ cond (is_at (R k) p) true (list_any (is_at (R p)) old) → list_any (same_place p) new ≡ (list_any (same_place p) old || same_place k p)
    inserted old new k p h =
        sym (any_tells p new) ∙ h ∙ ap (λ (b : Bool). cond b true (list_any (is_at (R p)) old)) (tells k p)
        ∙ ap (λ (b : Bool). cond (same_place k p) true b) (any_tells p old)
        ∙ by_cond (same_place k p) (list_any (same_place p) old)

    -- a place less
    pub removed : (old new : List Place) (k p : Place) → list_any (is_at (R p)) new ≡ cond (is_at (R k) p) false (list_any (is_at (R p)) old) → list_any (same_place p) new ≡ (list_any (same_place p) old && not (same_place k p))
    removed old new k p h =
        sym (any_tells p new) ∙ h ∙ ap (λ (b : Bool). cond b false (list_any (is_at (R p)) old)) (tells k p)
        ∙ ap (λ (b : Bool). cond (same_place k p) false b) (any_tells p old)
        ∙ by_cond_not (same_place k p) (list_any (same_place p) old)

nat_eq-turned : (a b : ℕ) → nat_eq a b ≡ nat_eq b a
nat_eq-turned a b = by (nat_eq a b) refl
  where
    by : (x : Bool) → nat_eq a b ≡ x → x ≡ nat_eq b a
    by true h = sym (eq-eqb b a (sym (eqb-true a b h)))
    by false h = sym (ne_eqb b a (λ e. eqb-false a b h (sym e)))

pub same_place-turned : (a b : Place) → same_place a b ≡ same_place b a
same_place-turned a b = ap (λ (x : Bool). x && nat_eq a.at b.at) (nat_eq-turned a.entry b.entry) ∙ ap (λ (x : Bool). nat_eq b.entry a.entry && x) (nat_eq-turned a.at b.at)

or_assoc : (a b c : Bool) → (a || (b || c)) ≡ ((a || b) || c)
or_assoc true b c = refl
or_assoc false b c = refl

-- a place that was to come is among these now
pub one_moved : (old new rest : List Place) (k p : Place) → list_any (same_place p) new ≡ (list_any (same_place p) old || same_place k p) → (list_any (same_place p) old || list_any (same_place p) (k ∷ rest)) ≡ (list_any (same_place p) new || list_any (same_place p) rest)
one_moved old new rest k p h =
    or_assoc (list_any (same_place p) old) (same_place p k) (list_any (same_place p) rest)
    ∙ ap (λ (b : Bool). (list_any (same_place p) old || b) || list_any (same_place p) rest) (same_place-turned p k)
    ∙ ap (λ (b : Bool). b || list_any (same_place p) rest) (sym h)

-- as are those of a list that were
pub all_moved : (old new these : List Place) (rest : Bool) (p : Place) → list_any (same_place p) new ≡ (list_any (same_place p) old || list_any (same_place p) these) → (list_any (same_place p) old || (list_any (same_place p) these || rest)) ≡ (list_any (same_place p) new || rest)
all_moved old new these rest p h = or_assoc (list_any (same_place p) old) (list_any (same_place p) these) rest ∙ ap (λ (b : Bool). b || rest) (sym h)
