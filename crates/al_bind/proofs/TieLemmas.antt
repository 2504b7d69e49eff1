-- The ties of edges, as they are listed one after another.
use Rattle.std.proofs.Common.{◌≡◌, ◌↔◌, ◌⊎◌, inl, inr, ℕ, true, Some, None, ◌+◌, ◌<◌, ◌≤◌, List, [], ◌∷◌, ◌++◌, length, map, take, get_or, refl, sym, ap, subst, ◌∙◌, arith}
use Rattle.std.specs.List.{Contains}
use Rattle.std.specs.List.Sorted.{IsStrictlySortedBy}
use Rattle.std.specs.declared.cmp.Ordering.TheVariants.{Less}
use Rattle.std.proofs.lemmas.Bool.{cases_lt}
use Rattle.std.proofs.lemmas.Map.Keys.{Less-from_sorted}
use Rattle.std.proofs.lemmas.List.{take_all, take_more}
use Rattle.std.proofs.lemmas.List.Kept.{IsStrictlySortedBy-filter}
use Rattle.std.proofs.lemmas.List.Elements.{Contains-push, Contains-push_cases, Contains-append_left}
use Rattle.al_base.specs.Batch.{Key, key_of}
use Rattle.al_base.specs.declared.unit_key.UnitKey.{UnitKey}
use Rattle.al_base.specs.declared.unit_key.UnitKind.TheVariants.{Body}
use Rattle.al_base_graph.specs.declared.edge.Edge.{Edge}
use Rattle.al_base_graph.specs.declared.edge.Reason.{Reason}
use Rattle.al_base_graph.specs.declared.edge.Reason.TheVariants.{Depends, Elaborate, ElaborateAll}
use Rattle.al_base_graph.proofs.Members.{nowhere}
use Rattle.al_unit_graph.specs.Headers.{Header, Library}
use Rattle.al_unit_graph.specs.Library.{is_unit, unit_at}
use Rattle.al_unit_graph.specs.Needed.{ListsUnits}
use Rattle.al_unit_graph.proofs.Lists.{from_map, into_map}
use Rattle.al_unit_graph.specs.Orders.{key_cmp}
use Rattle.al_bind.specs.Elaboration.{Wants, node_of}
use Rattle.al_bind.specs.Elaboration.Wants.{depends, elaborate, elaborate_all_body, elaborate_all}
use Rattle.al_bind.specs.Numbers.{Adds, IsAt, IsEnd, IsFor, IsForAll, OneOf, TiesBy, TiesTo, is_node, nodes_among}
use Rattle.al_bind.specs.Steps.{WantsBy}
use Rattle.al_bind.specs.declared.places.End.{End}
use Rattle.al_bind.proofs.PlaceLemmas.{key_itself}

-- adding
pub adds_none : (old : List Edge) (P : Edge → Type 0) → ((t : Edge) → P t → ⊥) → Adds old old P
adds_none old P none = record { each = λ t. ((λ c. inl c), (λ h. elim h [ inl c ↦ c | inr p ↦ absurd (none t p) ])) }

pub adds_both : (old mid new : List Edge) (P Q : Edge → Type 0) → Adds old mid P → Adds mid new Q → Adds old new (λ t. P t ⊎ Q t)
adds_both old mid new P Q first second = record {
  each = λ t. (
    (λ c. elim ((second.each t).0 c) [
      | inl m ↦ elim ((first.each t).0 m) [ inl o ↦ inl o | inr p ↦ inr (inl p) ]
      | inr q ↦ inr (inr q)
    ]),
    (λ h. elim h [
      | inl o ↦ (second.each t).1 (inl ((first.each t).1 (inl o)))
      | inr pq ↦ elim pq [ inl p ↦ (second.each t).1 (inl ((first.each t).1 (inr p))) | inr q ↦ (second.each t).1 (inr q) ]
    ]),
  );
}

pub adds_same : (old new : List Edge) (P Q : Edge → Type 0) → Adds old new P → ((t : Edge) → P t ↔ Q t) → Adds old new Q
adds_same old new P Q adds same = record {
  each = λ t. (
    (λ c. elim ((adds.each t).0 c) [ inl o ↦ inl o | inr p ↦ inr ((same t).0 p) ]),
    (λ h. elim h [ inl o ↦ (adds.each t).1 (inl o) | inr q ↦ (adds.each t).1 (inr ((same t).1 q)) ]),
  );
}

pub adds_start : {X : Type 0} (old : List Edge) (P : X → Edge → Type 0) → Adds old old (OneOf [] P)
adds_start old P = adds_none old (OneOf [] P) (λ t h. nowhere h.0 h.1)

more_of : {X : Type 0} (zs : List X) (i : ℕ) (z : X) (P : X → Edge → Type 0) (t : Edge) → i < length zs → z ≡ get_or zs i z → (OneOf (take i zs) P t ⊎ P z t) ↔ OneOf (take (i + 1) zs) P t
more_of {X} zs i z P t within is =
    let same : take (i + 1) zs ≡ take i zs ++ z ∷ [] = take_more zs i z within ∙ ap (λ (y : X). take i zs ++ y ∷ []) (sym is) in (
      (λ h. elim h [
        | inl o ↦ (o.0, subst (λ (xs : List X). Contains xs o.0) (sym same) (Contains-append_left (take i zs) (z ∷ []) o.0 o.1), o.2)
        | inr p ↦ (z, subst (λ (xs : List X). Contains xs z) (sym same) (Contains-push (take i zs) z), p)
      ]),
      (λ o. elim (Contains-push_cases (take i zs) z o.0 (subst (λ (xs : List X). Contains xs o.0) same o.1)) [
        | inl c ↦ inl (o.0, c, o.2)
        | inr e ↦ inr (subst (λ (y : X). P y t) (sym e) o.2)
      ]),
    )

pub adds_step : {X : Type 0} (old mid new : List Edge) (zs : List X) (i : ℕ) (z : X) (P : X → Edge → Type 0) → Adds old mid (OneOf (take i zs) P) → i < length zs → z ≡ get_or zs i z → Adds mid new (P z) → Adds old new (OneOf (take (i + 1) zs) P)
adds_step old mid new zs i z P first within is second =
    adds_same old new (λ t. OneOf (take i zs) P t ⊎ P z t) (OneOf (take (i + 1) zs) P) (adds_both old mid new (OneOf (take i zs) P) (P z) first second) (λ t. more_of zs i z P t within is)

pub adds_end : {X : Type 0} (old new : List Edge) (zs : List X) (i : ℕ) (P : X → Edge → Type 0) → Adds old new (OneOf (take i zs) P) → length zs ≤ i → Adds old new (OneOf zs P)
adds_end {X} old new zs i P adds ended = subst (λ (xs : List X). Adds old new (OneOf xs P)) (take_all i zs ended) adds

-- places
one_place_by : (ks : List Key) (k : Key) (i j : ℕ) → IsStrictlySortedBy key_cmp ks → IsAt ks k i → IsAt ks k j → i < j → ⊥
one_place_by ks k i j sorted at too l =
    let less : key_cmp (get_or ks i k) (get_or ks j k) ≡ Less = Less-from_sorted key_cmp ks i j k sorted l too.0 in
    let same : key_cmp (get_or ks i k) (get_or ks j k) ≡ key_cmp k k = ap (λ (a : Key). key_cmp a (get_or ks j k)) at.1 ∙ ap (λ (b : Key). key_cmp k b) too.1 in
    let equal = same ∙ key_itself k in
    absurd (cc)

pub one_place : (ks : List Key) (k : Key) (i j : ℕ) → IsStrictlySortedBy key_cmp ks → IsAt ks k i → IsAt ks k j → i ≡ j
one_place ks k i j sorted at too =
    elim (cases_lt i j) [
      | inl before ↦ absurd (one_place_by ks k i j sorted at too before)
      | inr upto ↦ elim (cases_lt j i) [
        | inl after ↦ absurd (one_place_by ks k j i sorted too at after)
        | inr down ↦ omega (arith, upto, down)
      ]
    ]

-- one tie
module _ (lib : Library) (keys : List Key) (sorted : IsStrictlySortedBy key_cmp keys) (x : End) (reason : Reason) (y : Key) where
  nodes_sorted : IsStrictlySortedBy key_cmp (nodes_among lib keys)
  nodes_sorted = IsStrictlySortedBy-filter key_cmp (is_node lib) keys sorted

  end_by : (t : Edge) (k : Key) → y ≡ k → TiesTo lib keys x k t → TiesTo lib keys x y t
  end_by t k is edges = subst (λ (j : Key). TiesTo lib keys x j t) (sym is) edges

  pub no_end : (old : List Edge) → ((end : End) → IsEnd lib keys y end → ⊥) → Adds old old (TiesBy lib keys x (IsFor reason y))
  no_end old none = adds_none old (TiesBy lib keys x (IsFor reason y)) (λ t h. let edges = end_by t h.0 h.1.1 h.2 in none (record { item = t.y; node = t.before }) (record { item_kind = edges.y_kind; item_at = edges.y_at; node_at = edges.before_at }))

  module _ (end : End) (is_end : IsEnd lib keys y end) where
    same_node : (t : Edge) (k : Key) → y ≡ k → TiesTo lib keys x k t → t.before ≡ end.node
    same_node t k is h = let edges = end_by t k is h in one_place (nodes_among lib keys) (node_of lib y) t.before end.node nodes_sorted edges.before_at is_end.node_at

    pub no_edge : (old : List Edge) → end.node ≡ x.node → Adds old old (TiesBy lib keys x (IsFor reason y))
    no_edge old same = adds_none old (TiesBy lib keys x (IsFor reason y)) (λ t h. h.2.apart (h.2.after_is ∙ sym same ∙ sym (same_node t h.0 h.1.1 h.2)))

    abbrev pub one_tie : Edge
    one_tie = record { after = x.node; before = end.node; reason = reason; x = x.item; y = end.item }

    the_tie : (t : Edge) → TiesBy lib keys x (IsFor reason y) t → one_tie ≡ t
    the_tie t h =
        let edges = end_by t h.0 h.1.1 h.2 in
        let before = same_node t h.0 h.1.1 h.2 in
        let item : t.y ≡ end.item = one_place keys y t.y end.item sorted edges.y_at is_end.item_at in
        let after : t.after ≡ x.node = edges.after_is in
        let from : t.x ≡ x.item = edges.x_is in
        let why : t.reason ≡ reason = h.1.0 in
        rw (sym before, sym item, sym after, sym from, sym why) refl

    pub one_edge : (old : List Edge) → (end.node ≡ x.node → ⊥) → Adds old (old ++ one_tie ∷ []) (TiesBy lib keys x (IsFor reason y))
    one_edge old other = record {
      each = λ t. (
        (λ c. elim (Contains-push_cases old one_tie t c) [
          | inl o ↦ inl o
          | inr is ↦ inr (subst (λ (s : Edge). TiesBy lib keys x (IsFor reason y) s) is (y, (refl, refl), record { y_kind = is_end.item_kind; x_is = refl; after_is = refl; y_at = is_end.item_at; before_at = is_end.node_at; apart = λ e. other (sym e) }))
        ]),
        (λ h. elim h [
          | inl o ↦ Contains-append_left old (one_tie ∷ []) t o
          | inr p ↦ subst (λ (s : Edge). Contains (old ++ one_tie ∷ []) s) (the_tie t p) (Contains-push old one_tie)
        ]),
      );
    }

-- ties by what is the same of all keys
pub ties_same : (lib : Library) (keys : List Key) (x : End) (R S : Reason → Key → Type 0) → ((r : Reason) (k : Key) → Contains keys k → R r k ↔ S r k) → (t : Edge) → TiesBy lib keys x R t ↔ TiesBy lib keys x S t
ties_same lib keys x R S same t = (
  (λ h. (h.0, (same t.reason h.0 (t.y, h.2.y_at.0, h.2.y_at.1)).0 h.1, h.2)),
  (λ h. (h.0, (same t.reason h.0 (t.y, h.2.y_at.0, h.2.y_at.1)).1 h.1, h.2)),
)

-- for some member of a list
abbrev ForSome : {X : Type 0} → List X → (X → Reason → Key → Type 0) → Reason → Key → Type 0
ForSome {X} zs Q r k = (z : X) × Contains zs z × Q z r k

one_of_ties : {X : Type 0} (lib : Library) (keys : List Key) (x : End) (zs : List X) (Q : X → Reason → Key → Type 0) (t : Edge) → OneOf zs (λ z. TiesBy lib keys x (Q z)) t ↔ TiesBy lib keys x (ForSome zs Q) t
one_of_ties lib keys x zs Q t = (
  (λ h. (h.2.0, (h.0, h.1, h.2.1), h.2.2)),
  (λ h. (h.1.0, h.1.1, (h.0, h.1.2, h.2))),
)

pub adds_by : {X : Type 0} (lib : Library) (keys : List Key) (x : End) (zs : List X) (Q : X → Reason → Key → Type 0) (R : Reason → Key → Type 0) (old new : List Edge) → Adds old new (OneOf zs (λ z. TiesBy lib keys x (Q z))) → ((r : Reason) (k : Key) → Contains keys k → ForSome zs Q r k ↔ R r k) → Adds old new (TiesBy lib keys x R)
adds_by lib keys x zs Q R old new adds same =
    adds_same old new (TiesBy lib keys x (ForSome zs Q)) (TiesBy lib keys x R) (adds_same old new (OneOf zs (λ z. TiesBy lib keys x (Q z))) (TiesBy lib keys x (ForSome zs Q)) adds (λ t. one_of_ties lib keys x zs Q t)) (λ t. ties_same lib keys x (ForSome zs Q) R same t)

pub adds_either : (lib : Library) (keys : List Key) (x : End) (R S T : Reason → Key → Type 0) (old mid new : List Edge) → Adds old mid (TiesBy lib keys x R) → Adds mid new (TiesBy lib keys x S) → ((r : Reason) (k : Key) → (R r k ⊎ S r k) ↔ T r k) → Adds old new (TiesBy lib keys x T)
adds_either lib keys x R S T old mid new first second same =
    adds_same old new (λ t. TiesBy lib keys x R t ⊎ TiesBy lib keys x S t) (TiesBy lib keys x T) (adds_both old mid new (TiesBy lib keys x R) (TiesBy lib keys x S) first second) (λ t. (
      (λ h. elim h [
        | inl a ↦ (a.0, (same t.reason a.0).0 (inl a.1), a.2)
        | inr b ↦ (b.0, (same t.reason b.0).0 (inr b.1), b.2)
      ]),
      (λ h. elim ((same t.reason h.0).1 h.1) [ inl a ↦ inl (h.0, a, h.2) | inr b ↦ inr (h.0, b, h.2) ]),
    ))

-- to the units that a call lists
pub told_ties : (lib : Library) (keys : List Key) (x : End) (reason : Reason) (ys : List UnitKey) (P : Key → Type 0) (old new : List Edge) → ((k : Key) → Contains keys k → Contains (map key_of ys) k ↔ P k) → Adds old new (OneOf ys (λ y. TiesBy lib keys x (IsFor reason (key_of y)))) → Adds old new (TiesBy lib keys x (λ r k. (r ≡ reason) × P k))
told_ties lib keys x reason ys P old new same adds =
    adds_by lib keys x ys (λ y. IsFor reason (key_of y)) (λ r k. (r ≡ reason) × P k) old new adds (λ r k c. (
      (λ h. (h.2.0, (same k c).0 (subst (λ (j : Key). Contains (map key_of ys) j) h.2.1 (into_map key_of ys h.0 h.1)))),
      (λ h. let f = from_map key_of ys k ((same k c).1 h.1) in (f.0, f.1, (h.0, f.2))),
    ))

-- of units of the library
pub listed_among : (lib : Library) (keys : List Key) (ys : List Key) (P : Key → Type 0) → ListsUnits lib ys P → ((k : Key) → Contains keys k → is_unit lib k ≡ true) → (k : Key) → Contains keys k → Contains ys k ↔ P k
listed_among lib keys ys P lists units k c = ((λ h. ((lists.all k).0 h).0), (λ p. (lists.all k).1 (p, units k c)))

pub listed_ties : (lib : Library) (keys : List Key) (x : End) (reason : Reason) (ys : List UnitKey) (P : Key → Type 0) (old new : List Edge) → ListsUnits lib (map key_of ys) P → ((k : Key) → Contains keys k → is_unit lib k ≡ true) → Adds old new (OneOf ys (λ y. TiesBy lib keys x (IsFor reason (key_of y)))) → Adds old new (TiesBy lib keys x (λ r k. (r ≡ reason) × P k))
listed_ties lib keys x reason ys P old new lists units adds = told_ties lib keys x reason ys P old new (listed_among lib keys (map key_of ys) P lists units) adds

-- what a part requires, if these dependences are listed
abbrev Depending : (Key → Type 0) → Reason → Key → Type 0
Depending D r k = (r ≡ Depends) × D k

abbrev NamedOnes : Library → Header → Reason → Key → Type 0
NamedOnes lib h = ForSome h.elaborate (λ q. IsFor Elaborate (q, Body))

abbrev AllOnes : Library → Header → Reason → Key → Type 0
AllOnes lib h = ForSome h.elaborate_all (IsForAll lib)

other_reason : (r s : Reason) → r ≡ s → (s ≡ Depends → ⊥) → r ≡ Depends → ⊥
other_reason r s is other e = other (sym is ∙ e)

named_is_other : Elaborate ≡ Depends → ⊥
named_is_other e = absurd (cc)

all_is_other : ElaborateAll ≡ Depends → ⊥
all_is_other e = absurd (cc)

for_one : (lib : Library) (p : Key) (reason r : Reason) (j k : Key) → Wants lib p reason j → IsFor reason j r k → Wants lib p r k
for_one lib p reason r j k wants h = subst (λ (s : Reason). Wants lib p s k) (sym h.0) (subst (λ (i : Key). Wants lib p reason i) h.1 wants)

wanted : (D : Key → Type 0) (lib : Library) (p : Key) (h : Header) → unit_at lib p ≡ Some h → (r : Reason) (k : Key) → ((Depending D r k ⊎ NamedOnes lib h r k) ⊎ AllOnes lib h r k) → WantsBy D lib p r k
wanted D lib p h is r k (inl (inl d)) = inl d
wanted D lib p h is r k (inl (inr (q, c, for))) = inr (other_reason r Elaborate for.0 named_is_other, for_one lib p Elaborate r (q, Body) k (elaborate is c) for)
wanted D lib p h is r k (inr (q, c, inl for)) = inr (other_reason r ElaborateAll for.0 all_is_other, for_one lib p ElaborateAll r (q, Body) k (elaborate_all_body is c) for)
wanted D lib p h is r k (inr (q, c, inr needed)) = inr (other_reason r ElaborateAll needed.0 all_is_other, subst (λ (s : Reason). Wants lib p s k) (sym needed.0) (elaborate_all is c needed.1))

same_header : (lib : Library) (p : Key) (h g : Header) → unit_at lib p ≡ Some h → unit_at lib p ≡ Some g → g ≡ h
same_header lib p h g is too = let e : Some g ≡ Some h = sym too ∙ is in cc

unwanted_other : (D : Key → Type 0) (lib : Library) (p : Key) (h : Header) → unit_at lib p ≡ Some h → (r : Reason) (k : Key) → (r ≡ Depends → ⊥) → Wants lib p r k → ((Depending D r k ⊎ NamedOnes lib h r k) ⊎ AllOnes lib h r k)
unwanted_other D lib p h is _ k other (depends d) = absurd (other refl)
unwanted_other D lib p h is _ _ other (elaborate {q} {h = g} too c) = inl (inr (q, subst (λ (f : Header). Contains f.elaborate q) (same_header lib p h g is too) c, (refl, refl)))
unwanted_other D lib p h is _ _ other (elaborate_all_body {q} {h = g} too c) = inr (q, subst (λ (f : Header). Contains f.elaborate_all q) (same_header lib p h g is too) c, inl (refl, refl))
unwanted_other D lib p h is _ k other (elaborate_all {q = q} {h = g} too c needed) = inr (q, subst (λ (f : Header). Contains f.elaborate_all q) (same_header lib p h g is too) c, inr (refl, needed))

unwanted : (D : Key → Type 0) (lib : Library) (p : Key) (h : Header) → unit_at lib p ≡ Some h → (r : Reason) (k : Key) → WantsBy D lib p r k → ((Depending D r k ⊎ NamedOnes lib h r k) ⊎ AllOnes lib h r k)
unwanted D lib p h is r k (inl d) = inl (inl d)
unwanted D lib p h is r k (inr o) = unwanted_other D lib p h is r k o.0 o.1

no_header : (lib : Library) (p : Key) (g : Header) → unit_at lib p ≡ None → unit_at lib p ≡ Some g → ⊥
no_header lib p g is too = let e = sym is ∙ too in absurd (cc)

other_wants_none : (lib : Library) (p : Key) → unit_at lib p ≡ None → (r : Reason) (k : Key) → (r ≡ Depends → ⊥) → Wants lib p r k → ⊥
other_wants_none lib p is _ k other (depends d) = other refl
other_wants_none lib p is _ _ other (elaborate {h = g} too c) = no_header lib p g is too
other_wants_none lib p is _ _ other (elaborate_all_body {h = g} too c) = no_header lib p g is too
other_wants_none lib p is _ k other (elaborate_all {h = g} too c needed) = no_header lib p g is too

only_depends : (D : Key → Type 0) (lib : Library) (p : Key) → unit_at lib p ≡ None → (r : Reason) (k : Key) → WantsBy D lib p r k → Depending D r k
only_depends D lib p is r k (inl d) = d
only_depends D lib p is r k (inr o) = absurd (other_wants_none lib p is r k o.0 o.1)

module _ (lib : Library) (keys : List Key) (x : End) (p : Key) (D : Key → Type 0) where
  pub part_none : (old new : List Edge) → unit_at lib p ≡ None → Adds old new (TiesBy lib keys x (λ r k. (r ≡ Depends) × D k)) → Adds old new (TiesBy lib keys x (WantsBy D lib p))
  part_none old new is adds = adds_same old new (TiesBy lib keys x (Depending D)) (TiesBy lib keys x (WantsBy D lib p)) adds (ties_same lib keys x (Depending D) (WantsBy D lib p) (λ r k c. ((λ d. inl d), only_depends D lib p is r k)))

  pub part_some : (h : Header) (a b c d : List Edge) → unit_at lib p ≡ Some h → Adds a b (TiesBy lib keys x (λ r k. (r ≡ Depends) × D k)) → Adds b c (OneOf h.elaborate (λ q. TiesBy lib keys x (IsFor Elaborate (q, Body)))) → Adds c d (OneOf h.elaborate_all (λ q. TiesBy lib keys x (IsForAll lib q))) → Adds a d (TiesBy lib keys x (WantsBy D lib p))
  part_some h a b c d is first second third =
      let named = adds_by lib keys x h.elaborate (λ q. IsFor Elaborate (q, Body)) (NamedOnes lib h) b c second (λ r k m. ((λ o. o), (λ o. o))) in
      let all = adds_by lib keys x h.elaborate_all (IsForAll lib) (AllOnes lib h) c d third (λ r k m. ((λ o. o), (λ o. o))) in
      let both = adds_either lib keys x (Depending D) (NamedOnes lib h) (λ r k. Depending D r k ⊎ NamedOnes lib h r k) a b c first named (λ r k. ((λ o. o), (λ o. o))) in
      adds_either lib keys x (λ r k. Depending D r k ⊎ NamedOnes lib h r k) (AllOnes lib h) (WantsBy D lib p) a c d both all (λ r k. (wanted D lib p h is r k, unwanted D lib p h is r k))
