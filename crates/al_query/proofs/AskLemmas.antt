-- One asking call after another.
use Rattle.std.proofs.Common.{◌≡◌, ℕ, Bool, true, false, ◌||◌, List, [], ◌∷◌, ◌++◌, is_some, refl, sym, ◌∙◌, ap, subst, append_assoc, append-nil, if◌then◌else◌, inl, inr}
use Rattle.std.specs.List.{flat_map, list_any}
use Rattle.std.specs.Str.{bytes_eq}
use Rattle.std.proofs.lemmas.List.Folds.{list_any-append}
use Rattle.std.proofs.lemmas.Slice.Eq.{bytes_eq-Decides}
use Rattle.al_base.specs.declared.unit_key.UnitKey.{UnitKey}
use Rattle.al_view.specs.declared.part.Part.{Part}
use Rattle.al_query.specs.Asked.{Asks, AsksOf, Follows, OfKnown, by_name, by_some_name, by_name_or_property, by_property, names_after}
use Rattle.al_query.specs.Known.{AreKnown, Grounded, has_unit, known_after, learned}
use Rattle.al_query.specs.Queries.{unit_of}
use Rattle.al_query.specs.Reads.{Log, logged, recorded}
use Rattle.al_query.specs.declared.answer.AnswerKind.{AnswerKind}
use Rattle.al_query.specs.declared.query.Query.{Query}
use Rattle.al_query.specs.declared.query.Query.TheVariants.{Named, Of}
use Rattle.al_query.proofs.KnownLemmas.{are_known, has_unit-cases, has_unit-first, has_unit-left, has_unit-right, known_after-join, known_after-more}

module _ (may : Log → Query → Type 0) where
  pub asks_none : (log : Log) → Asks may log log
  asks_none log = ([], sym (append-nil log), tt)

  pub asks_one : (old new : Log) (q : Query) (a : AnswerKind) → may old q → new ≡ logged old q a → Asks may old new
  asks_one old new q a m e = at (is_some (recorded old q)) e
    where
      at : (b : Bool) → new ≡ (if b then old else old ++ (q, a) ∷ []) → Asks may old new
      at true is = ([], is ∙ sym (append-nil old), tt)
      at false is = ((q, a) ∷ [], is, (m, tt))

  follows-append : (log xs ys : Log) → Follows may log xs → Follows may (log ++ xs) ys → Follows may log (xs ++ ys)
  follows-append log [] ys a b = subst (λ (l : Log). Follows may l ys) (append-nil log) b
  follows-append log (x ∷ xs) ys a b = (a.0, follows-append (log ++ x ∷ []) xs ys a.1 (subst (λ (l : Log). Follows may l ys) (sym (append_assoc log (x ∷ []) xs)) b))

  pub asks_then : (old mid new : Log) → Asks may old mid → Asks may mid new → Asks may old new
  asks_then old mid new one two = (
    one.0 ++ two.0,
    two.1 ∙ ap (λ (l : Log). l ++ two.0) one.1 ∙ append_assoc old one.0 two.0,
    follows-append old one.0 two.0 one.2 (subst (λ (l : Log). Follows may l two.0) one.1 two.2),
  )

module _ (may can : Log → Query → Type 0) (wider : (log : Log) (q : Query) → may log q → can log q) where
  follows-wider : (log xs : Log) → Follows may log xs → Follows can log xs
  follows-wider log [] a = tt
  follows-wider log (x ∷ xs) a = (wider log x.0 a.0, follows-wider (log ++ x ∷ []) xs a.1)

  pub asks_wider : (old new : Log) → Asks may old new → Asks can old new
  asks_wider old new a = (a.0, a.1, follows-wider old a.0 a.2)

-- questions of other units, which are known when they begin
follows-known : (us vs : List UnitKey) (wanted : Log → Query → Bool) (log es : Log) → ((u : UnitKey) → has_unit us u ≡ true → has_unit (known_after vs log) u ≡ true) → Follows (OfKnown us wanted) log es → Follows (OfKnown vs wanted) log es
follows-known us vs wanted log [] h f = tt
follows-known us vs wanted log (e ∷ es) h f = (
  (known, f.0.1),
  follows-known us vs wanted (log ++ e ∷ []) es (λ u m. known_after-more vs log (e ∷ []) u (h u m)) f.1,
)
  where
    answered : List UnitKey
    answered = flat_map (λ (x : Query × AnswerKind). learned x.0 x.1) log

    known : has_unit (known_after vs log) (unit_of e.0) ≡ true
    known = elim (has_unit-cases us answered (unit_of e.0) f.0.0) as (λ _. has_unit (known_after vs log) (unit_of e.0) ≡ true) [
      | inl m ↦ h (unit_of e.0) m
      | inr m ↦ has_unit-right vs answered (unit_of e.0) m
    ]

pub asks_of-from : (us vs : List UnitKey) (wanted : Log → Query → Bool) (old new : Log) → ((u : UnitKey) → has_unit us u ≡ true → has_unit (known_after vs old) u ≡ true) → AsksOf us wanted old new → AsksOf vs wanted old new
asks_of-from us vs wanted old new h a = (a.0, a.1, follows-known us vs wanted old a.0 h a.2)

pub asks_of-known : (us vs : List UnitKey) (wanted : Log → Query → Bool) (old new : Log) → AreKnown (known_after vs old) us → AsksOf us wanted old new → AsksOf vs wanted old new
asks_of-known us vs wanted old new h = asks_of-from us vs wanted old new (are_known (known_after vs old) us h)

-- questions of more units
pub asks_of-units : (us vs : List UnitKey) (wanted : Log → Query → Bool) (old new : Log) → ((u : UnitKey) → has_unit us u ≡ true → has_unit vs u ≡ true) → AsksOf us wanted old new → AsksOf vs wanted old new
asks_of-units us vs wanted old new h = asks_of-from us vs wanted old new (λ u m. has_unit-left vs (flat_map (λ (x : Query × AnswerKind). learned x.0 x.1) old) u (h u m))

pub asks_of-left : (us vs : List UnitKey) (wanted : Log → Query → Bool) (old new : Log) → AsksOf us wanted old new → AsksOf (us ++ vs) wanted old new
asks_of-left us vs wanted old new = asks_of-units us (us ++ vs) wanted old new (has_unit-left us vs)

pub asks_of-right : (us vs : List UnitKey) (wanted : Log → Query → Bool) (old new : Log) → AsksOf vs wanted old new → AsksOf (us ++ vs) wanted old new
asks_of-right us vs wanted old new = asks_of-units vs (us ++ vs) wanted old new (has_unit-right us vs)

-- the units of equal lists
pub asks_of-same : (us vs : List UnitKey) (wanted : Log → Query → Bool) (old new : Log) → us ≡ vs → AsksOf us wanted old new → AsksOf vs wanted old new
asks_of-same us vs wanted old new e a = subst (λ (l : List UnitKey). AsksOf l wanted old new) e a

-- one call's units, and then another's
pub asks_of-both : (us vs : List UnitKey) (wanted : Log → Query → Bool) (old mid new : Log) → AsksOf us wanted old mid → AsksOf vs wanted mid new → AsksOf (us ++ vs) wanted old new
asks_of-both us vs wanted old mid new one two = asks_then (OfKnown (us ++ vs) wanted) old mid new (asks_of-left us vs wanted old mid one) (asks_of-right us vs wanted mid new two)

-- more kinds of questions
pub asks_of-wider : (us : List UnitKey) (wanted wants : Log → Query → Bool) (old new : Log) → ((log : Log) (q : Query) → wanted log q ≡ true → wants log q ≡ true) → AsksOf us wanted old new → AsksOf us wants old new
asks_of-wider us wanted wants old new h = asks_wider (OfKnown us wanted) (OfKnown us wants) (λ log q m. (m.0, h log q m.1)) old new

or-left : (b c : Bool) → b ≡ true → (b || c) ≡ true
or-left true c h = refl
or-left false c h = absurd (cc)

or-right : (b c : Bool) → c ≡ true → (b || c) ≡ true
or-right true c h = refl
or-right false c h = h

or-either : (a b c : Bool) → (a ≡ true → b ≡ true) → (a || c) ≡ true → (b || c) ≡ true
or-either true b c h k = or-left b c (h refl)
or-either false b c h k = or-right b c k

-- more names
pub by_name-wider : (ns ms : List (List ℕ)) → ((n : List ℕ) → list_any (bytes_eq n) ns ≡ true → list_any (bytes_eq n) ms ≡ true) → (log : Log) (q : Query) → by_name ns log q ≡ true → by_name ms log q ≡ true
by_name-wider ns ms h log (Named unit part name) k =
    list_any-append (bytes_eq name) ms (names_after log)
    ∙ or-either (list_any (bytes_eq name) ns) (list_any (bytes_eq name) ms) (list_any (bytes_eq name) (names_after log)) (h name) (sym (list_any-append (bytes_eq name) ns (names_after log)) ∙ k)
by_name-wider ns ms h log (Of unit property) k = k

pub name_is_either : (ns : List (List ℕ)) (log : Log) (q : Query) → by_name ns log q ≡ true → by_name_or_property ns log q ≡ true
name_is_either ns log q h = or-left (by_name ns log q) (by_property log q) h

pub property_is_either : (ns : List (List ℕ)) (log : Log) (q : Query) → by_property log q ≡ true → by_name_or_property ns log q ≡ true
property_is_either ns log q h = or-right (by_name ns log q) (by_property log q) h

-- one question
pub asks_of-one : (wanted : Log → Query → Bool) (old new : Log) (q : Query) (unit : UnitKey) (a : AnswerKind) → unit_of q ≡ unit → wanted old q ≡ true → new ≡ logged old q a → AsksOf (unit ∷ []) wanted old new
asks_of-one wanted old new q unit a is h e =
    let first : has_unit (known_after (unit ∷ []) old) (unit_of q) ≡ true = subst (λ (u : UnitKey). has_unit (known_after (unit ∷ []) old) u ≡ true) (sym is) (has_unit-first unit (flat_map (λ (x : Query × AnswerKind). learned x.0 x.1) old)) in
    asks_one (OfKnown (unit ∷ []) wanted) old new q a (first, h) e

-- one question for a name
pub asks_of-name : (old new : Log) (unit : UnitKey) (part : Part) (name : List ℕ) (q : Query) (a : AnswerKind) → q ≡ Named unit part name → new ≡ logged old q a → AsksOf (unit ∷ []) (by_name (name ∷ [])) old new
asks_of-name old new unit part name q a is e =
    let wanted : by_name (name ∷ []) old q ≡ true = subst (λ (p : Query). by_name (name ∷ []) old p ≡ true) (sym is) (or-left (bytes_eq name name) (list_any (bytes_eq name) (names_after old)) ((bytes_eq-Decides name name).1 refl)) in
    asks_of-one (by_name (name ∷ [])) old new q unit a (ap unit_of is) wanted e

-- what is asked of units that are known is grounded in them
follows-grounded : (known : List UnitKey) (wanted : Log → Query → Bool) (log es : Log) → Follows (OfKnown known wanted) log es → Grounded (known_after known log) es
follows-grounded known wanted log [] f = tt
follows-grounded known wanted log (e ∷ es) f =
    let more = known_after-join known log (e ∷ []) ∙ ap (λ (l : List UnitKey). known_after known log ++ l) (append-nil (learned e.0 e.1)) in
    (f.0.0, subst (λ (l : List UnitKey). Grounded l es) more (follows-grounded known wanted (log ++ e ∷ []) es f.1))

pub asks_of-grounded : (known : List UnitKey) (wanted : Log → Query → Bool) (log : Log) → AsksOf known wanted [] log → Grounded known log
asks_of-grounded known wanted log a =
    let all = follows-grounded known wanted [] a.0 a.2 in
    subst (λ (l : Log). Grounded known l) (sym a.1) (subst (λ (us : List UnitKey). Grounded us a.0) (append-nil known) all)

-- a question for one of these names, or for a name in an answer, is for some name
pub by_name-some : (ns : List (List ℕ)) (log : Log) (q : Query) → by_name ns log q ≡ true → by_some_name log q ≡ true
by_name-some ns log (Named unit part name) k = refl
by_name-some ns log (Of unit property) k = k
