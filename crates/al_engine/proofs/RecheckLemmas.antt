-- The entries and the list of checked units after a build.
use Rattle.std.proofs.Common.{◌≡◌, inl, inr, ℕ, suc, true, List, [], ◌∷◌, ◌++◌, map, length, Option, Some, None, refl, sym, ap, subst, ◌∙◌, if◌then◌else◌}
use Rattle.std.specs.List.{Contains}
use Rattle.std.specs.List.Sorted.{IsStrictlySortedBy}
use Rattle.std.specs.Option.{option_map}
use Rattle.std.proofs.lemmas.List.Elements.{Contains-append_left, Contains-append_right, Contains-append_cases}
use Rattle.al_base.specs.Batch.{Key, key_of}
use Rattle.al_base.specs.declared.unit_key.UnitKey.{UnitKey}
use Rattle.al_base_graph.proofs.Members.{first, later, first_or_later, nowhere}
use Rattle.al_view.proofs.SymbolLemmas.{both}
use Rattle.al_query.specs.declared.answer.AnswerKind.{AnswerKind}
use Rattle.al_query.specs.declared.query.Query.{Query}
use Rattle.al_unit_graph.specs.Headers.{Header}
use Rattle.al_unit_graph.specs.Orders.{in_order, key_cmp}
use Rattle.al_unit_graph.proofs.OrderLemmas.{in_order_ascends}
use Rattle.al_query_outcome.proofs.Members.{contains-has, has-contains}
use Rattle.al_query_outcome.specs.Equations.{Setting, is_reached, table}
use Rattle.al_query_outcome.specs.Results.{Outcome}
use Rattle.al_engine_refresh.specs.EntryLaw.{HasCurrent, TextMeaning}
use Rattle.al_engine_refresh.specs.Stored.{Stored, outcome_of}
use Rattle.al_engine_refresh.specs.Builds.{IsBuilt, IsOrder, NeedsCheck, Picked, StandsAfter, left, no_units, results_of, taken, text_of}
use Rattle.al_engine_refresh.specs.Staying.{is_there, or_else, staying}
use Rattle.al_engine.specs.Rechecks.{AreSettled, IsRechecked}
use Rattle.al_engine.proofs.KeyOrders.{NoneTwice, as-many, of-keys, same-units}

one-more : (seen : List Key) (before : List UnitKey) (v : UnitKey) → ((u : UnitKey) → Contains seen (key_of u) → Contains before u) → (u : UnitKey) → Contains (seen ++ key_of v ∷ []) (key_of u) → Contains (before ++ v ∷ []) u
one-more seen before v within u c =
    elim (Contains-append_cases seen (key_of v ∷ []) (key_of u) c) as (λ _. Contains (before ++ v ∷ []) u) [
      | inl h ↦ Contains-append_left before (v ∷ []) u (within u h)
      | inr h ↦ Contains-append_right before (v ∷ []) u (of-keys (v ∷ []) u h)
    ]

module _ (P : UnitKey → Type 0) where
  -- the units that are picked from a list
  pub picked-some : (order row : List UnitKey) → Picked P order row → (u : UnitKey) → Contains row u → P u
  picked-some _ _ no_units u c = absurd (nowhere u c)
  picked-some _ _ (taken {u = v} {us = us} {vs = vs} holds rest) u c =
      elim (first_or_later v vs u c) as (λ _. P u) [ inl is ↦ subst P is holds | inr h ↦ picked-some us vs rest u h ]
  picked-some _ _ (left {u = v} {us = us} {vs = vs} not rest) u c = picked-some us vs rest u c

  pub picked-all : (order row : List UnitKey) → Picked P order row → (u : UnitKey) → Contains order u → P u → Contains row u
  picked-all _ _ no_units u c p = absurd (nowhere u c)
  picked-all _ _ (taken {u = v} {us = us} {vs = vs} holds rest) u c p =
      elim (first_or_later v us u c) as (λ _. Contains (v ∷ vs) u) [
        | inl is ↦ subst (λ (x : UnitKey). Contains (v ∷ vs) x) is (first v vs)
        | inr h ↦ later v vs u (picked-all us vs rest u h p)
      ]
  picked-all _ _ (left {u = v} {us = us} {vs = vs} not rest) u c p =
      elim (first_or_later v us u c) as (λ _. Contains vs u) [ inl is ↦ absurd (not (subst P (sym is) p)) | inr h ↦ picked-all us vs rest u h p ]

  -- no unit of an order is listed twice
  pub picked-once : (s : Setting) (rank : UnitKey → ℕ) (before order row : List UnitKey) → StandsAfter s rank before order → Picked P order row → (seen : List Key) → ((u : UnitKey) → Contains seen (key_of u) → Contains before u) → NoneTwice seen (map key_of row)
  picked-once s rank before _ _ after no_units seen within = tt
  picked-once s rank before _ _ after (taken {u = v} {us = us} {vs = vs} holds rest) seen within = (
    (λ c. let has = contains-has before v (within v c) in let not = after.0 in absurd (cc)),
    picked-once s rank (before ++ v ∷ []) us vs after.3 rest (seen ++ key_of v ∷ []) (one-more seen before v within),
  )
  picked-once s rank before _ _ after (left {u = v} {us = us} {vs = vs} not rest) seen within =
      picked-once s rank (before ++ v ∷ []) us vs after.3 rest seen (λ u c. Contains-append_left before (v ∷ []) u (within u c))

-- a unit has the entry that the build made of it
made-first : (made other : Option Stored) (text : List ℕ) (t : Query → AnswerKind) → HasCurrent made text t → or_else made other ≡ made
made-first None other text t has = absurd has
made-first (Some e) other text t has = refl

length-map : {X Y : Type 0} (g : X → Y) (xs : List X) → length (map g xs) ≡ length xs
length-map g [] = refl
length-map g (x ∷ xs) = ap (λ (n : ℕ). suc n) (length-map g xs)

reached-faultless : (s : Setting) (f : UnitKey → Option Outcome) (u : UnitKey) → is_reached s f u ≡ true → s.is_faultless u ≡ true
reached-faultless s f u is = (both (s.is_faultless u) _ is).0

module _ (meaning : TextMeaning) (header : List ℕ → Header) (s : Setting) (rank : UnitKey → ℕ) (old made : UnitKey → Option Stored) (order row checked : List UnitKey) (is : IsBuilt meaning header s old made order row) (ordered : IsOrder s rank order) (sorted : map key_of checked ≡ in_order (map key_of row)) where
  abbrev f : UnitKey → Option Outcome
  f = results_of made

  pub rechecked : IsRechecked meaning header s old made checked
  rechecked = record {
    law = is.law;
    solves = is.solves;
    only = is.only;
    current = is.current;
    unreached = is.unreached;
    rechecked = λ u. (
      (λ c. picked-some (NeedsCheck s old (text_of s.files) f) order row is.rechecked u ((same-units row checked sorted u).0 c)),
      (λ n. (same-units row checked sorted u).1 (picked-all (NeedsCheck s old (text_of s.files) f) order row is.rechecked u (has-contains order u (ordered.whole u (reached-faultless s f u n.0))) n)),
    );
    ascend = subst (λ (ks : List Key). IsStrictlySortedBy key_cmp ks) (sym sorted) (in_order_ascends (map key_of row));
  }

  -- the list is as long as there were checks
  pub as-long : length checked ≡ length row
  as-long =
      sym (length-map key_of checked) ∙ ap length sorted
      ∙ as-many (map key_of row) (picked-once (NeedsCheck s old (text_of s.files) f) s rank [] order row ordered.after is.rechecked [] (λ u c. absurd (nowhere (key_of u) c)))
      ∙ length-map key_of row

module _ (meaning : TextMeaning) (header : List ℕ → Header) (s : Setting) (old made : UnitKey → Option Stored) (checked : List UnitKey) (is : IsRechecked meaning header s old made checked) where
  reached-new : (u : UnitKey) → is_reached s (results_of made) u ≡ true → staying s.files old made u ≡ made u
  reached-new u r = made-first (made u) _ (text_of s.files u) (table s (results_of made)) (is.current u r)

  pub settled : AreSettled s (results_of made) old (staying s.files old made)
  settled = record {
    current = λ u r. subst (λ (o : Option Stored). HasCurrent o (text_of s.files u) (table s (results_of made))) (sym (reached-new u r)) (is.current u r);
    results = λ u r. ap (option_map outcome_of) (reached-new u r);
    others = λ u r. ap (λ (o : Option Stored). or_else o (if is_there s.files u then old u else None)) (is.unreached u r);
  }
