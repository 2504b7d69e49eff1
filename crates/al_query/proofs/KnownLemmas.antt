-- What is known stays known, and what an answer tells becomes known.
use Rattle.std.proofs.Common.{◌≡◌, List, [], ◌∷◌, ◌++◌, Bool, true, false, cond, ◌||◌, Some, refl, sym, ◌∙◌, ap, subst, append_assoc, inl, inr, ◌⊎◌}
use Rattle.std.specs.List.{flat_map}
use Rattle.al_base.specs.declared.unit_key.UnitKey.{UnitKey}
use Rattle.al_view.specs.Symbols.{same_unit}
use Rattle.al_view.proofs.SymbolLemmas.{same_unit-one, same_unit-self}
use Rattle.al_query.specs.declared.query.Query.{Query}
use Rattle.al_query.specs.declared.answer.AnswerKind.{AnswerKind}
use Rattle.al_query.specs.Known.{AreKnown, Learns, has_unit, known_after, learned}
use Rattle.al_query.specs.Queries.{same_query}
use Rattle.al_query.specs.QueryLaws.{same_query-one}
use Rattle.al_query.specs.Reads.{Log, recorded}

pub has_unit-left : (xs ys : List UnitKey) (u : UnitKey) → has_unit xs u ≡ true → has_unit (xs ++ ys) u ≡ true
has_unit-left [] ys u h = absurd (cc)
has_unit-left (x ∷ xs) ys u h = at (same_unit u x) h (has_unit-left xs ys u)
  where
    at : (b : Bool) → (b || has_unit xs u) ≡ true → (has_unit xs u ≡ true → has_unit (xs ++ ys) u ≡ true) → (b || has_unit (xs ++ ys) u) ≡ true
    at true h more = refl
    at false h more = more h

or-right : (b c : Bool) → c ≡ true → (b || c) ≡ true
or-right true c h = refl
or-right false c h = h

or-left : (b c : Bool) → b ≡ true → (b || c) ≡ true
or-left true c h = refl
or-left false c h = absurd (cc)

pub has_unit-right : (xs ys : List UnitKey) (u : UnitKey) → has_unit ys u ≡ true → has_unit (xs ++ ys) u ≡ true
has_unit-right [] ys u h = h
has_unit-right (x ∷ xs) ys u h = or-right (same_unit u x) (has_unit (xs ++ ys) u) (has_unit-right xs ys u h)

pub has_unit-cases : (xs ys : List UnitKey) (u : UnitKey) → has_unit (xs ++ ys) u ≡ true → (has_unit xs u ≡ true) ⊎ (has_unit ys u ≡ true)
has_unit-cases [] ys u h = inr h
has_unit-cases (x ∷ xs) ys u h = at (same_unit u x) h (has_unit-cases xs ys u)
  where
    at : (b : Bool) → (b || has_unit (xs ++ ys) u) ≡ true → (has_unit (xs ++ ys) u ≡ true → (has_unit xs u ≡ true) ⊎ (has_unit ys u ≡ true)) → ((b || has_unit xs u) ≡ true) ⊎ (has_unit ys u ≡ true)
    at true h more = inl refl
    at false h more = more h

pub has_unit-first : (u : UnitKey) (us : List UnitKey) → has_unit (u ∷ us) u ≡ true
has_unit-first u us = or-left (same_unit u u) (has_unit us u) (same_unit-self u)

-- a longer log
pub flat_map-join : {X Y : Type 0} (f : X → List Y) (xs ys : List X) → flat_map f (xs ++ ys) ≡ flat_map f xs ++ flat_map f ys
flat_map-join f [] ys = refl
flat_map-join f (x ∷ xs) ys = ap (λ l. f x ++ l) (flat_map-join f xs ys) ∙ sym (append_assoc (f x) (flat_map f xs) (flat_map f ys))

pub known_after-join : (known : List UnitKey) (log more : Log) → known_after known (log ++ more) ≡ known_after known log ++ flat_map (λ e. learned e.0 e.1) more
known_after-join known log more = ap (λ l. known ++ l) (flat_map-join (λ e. learned e.0 e.1) log more) ∙ sym (append_assoc known (flat_map (λ e. learned e.0 e.1) log) (flat_map (λ e. learned e.0 e.1) more))

-- what is known stays known
pub known_after-more : (known : List UnitKey) (log more : Log) (u : UnitKey) → has_unit (known_after known log) u ≡ true → has_unit (known_after known (log ++ more)) u ≡ true
known_after-more known log more u h = rw (known_after-join known log more) (has_unit-left (known_after known log) (flat_map (λ e. learned e.0 e.1) more) u h)

-- what a recorded answer tells is known
learned-in : (log : Log) (q : Query) (a : AnswerKind) (u : UnitKey) → recorded log q ≡ Some a → has_unit (learned q a) u ≡ true → has_unit (flat_map (λ e. learned e.0 e.1) log) u ≡ true
learned-in [] q a u r h = absurd (cc)
learned-in (e ∷ es) q a u r h = at (same_query q e.0) refl r (λ k. learned-in es q a u k h)
  where
    at : (b : Bool) → same_query q e.0 ≡ b → cond b (Some e.1) (recorded es q) ≡ Some a → (recorded es q ≡ Some a → has_unit (flat_map (λ e. learned e.0 e.1) es) u ≡ true) → has_unit (learned e.0 e.1 ++ flat_map (λ e. learned e.0 e.1) es) u ≡ true
    at true i r rest =
        let same : e.1 ≡ a = cc in
        let one : learned q a ≡ learned e.0 e.1 = ap (λ x. learned x a) (same_query-one q e.0 i) ∙ ap (λ x. learned e.0 x) (sym same) in
        has_unit-left (learned e.0 e.1) (flat_map (λ e. learned e.0 e.1) es) u (subst (λ (l : List UnitKey). has_unit l u ≡ true) one h)
    at false i r rest = has_unit-right (learned e.0 e.1) (flat_map (λ e. learned e.0 e.1) es) u (rest r)

-- a recorded question again
pub learns-recorded : (log : Log) (q : Query) (a k : AnswerKind) → recorded log q ≡ Some k → a ≡ k → Learns log log q a
learns-recorded log q a k r same units u = (
  λ m. m,
  λ m. has_unit-right units (flat_map (λ e. learned e.0 e.1) log) u (learned-in log q k u r (subst (λ (x : AnswerKind). has_unit (learned q x) u ≡ true) same m)),
)

-- one more question, told by equations
pub learns-push_is : (log new : Log) (q asked : Query) (a k : AnswerKind) → new ≡ log ++ (q, k) ∷ [] → q ≡ asked → k ≡ a → Learns log new asked a
learns-push_is log new q asked a k is one same units u =
    let e : new ≡ log ++ (asked, a) ∷ [] = is ∙ ap (λ (x : AnswerKind). log ++ (q, x) ∷ []) same ∙ ap (λ (x : Query). log ++ (x, a) ∷ []) one in
    rw e (
      λ m. known_after-more units log ((asked, a) ∷ []) u m,
      λ m. rw (known_after-join units log ((asked, a) ∷ [])) (has_unit-right (known_after units log) (learned asked a ++ []) u (has_unit-left (learned asked a) [] u m)),
    )

-- units that are known, one by one
pub are_known : (known us : List UnitKey) → AreKnown known us → (u : UnitKey) → has_unit us u ≡ true → has_unit known u ≡ true
are_known known [] h u m = absurd (cc)
are_known known (x ∷ xs) h u m = at (same_unit u x) refl m (are_known known xs h.1 u)
  where
    at : (b : Bool) → same_unit u x ≡ b → (b || has_unit xs u) ≡ true → (has_unit xs u ≡ true → has_unit known u ≡ true) → has_unit known u ≡ true
    at true i k more = subst (λ (y : UnitKey). has_unit known y ≡ true) (sym (same_unit-one u x i)) h.0
    at false i k more = more k
