-- How many stored answers a build compared.
use Rattle.std.proofs.Common.{◌≡◌, ◌≤◌, ◌&&◌, ◌||◌, ℕ, Bool, true, false, not, List, [], Option, Some, None, refl, sym, ◌∙◌, ap, subst, is_some, slice_get, arith}
use Rattle.std.specs.List.{Contains, IsDistinct}
use Rattle.std.specs.Option.{option_and_then, option_map}
use Rattle.std.proofs.lemmas.Bool.{true≢false}
use Rattle.std.proofs.lemmas.Bool.Decides.{nat_tests}
use Rattle.al_base.specs.declared.unit_key.UnitKey.{UnitKey}
use Rattle.al_query.specs.Known.{has_unit}
use Rattle.al_query.specs.Queries.{unit_of}
use Rattle.al_query.specs.declared.answer.AnswerKind.{AnswerKind}
use Rattle.al_query.specs.declared.query.Query.{Query}
use Rattle.al_query_outcome.proofs.Members.{contains-has, has-contains}
use Rattle.al_query_store.specs.Stored.{base}
use Rattle.al_query_store.specs.declared.slots.Held.{Held}
use Rattle.al_query_store.proofs.CountLemmas.{fewer_count, same_count, some_count}
use Rattle.al_query_store.specs.Changes.{HasAnswers, Spot, answer_of, asks, same_spot}
use Rattle.al_query_store.specs.Keyed.{State, differ, kept_state, settled_at, settled_state, state}
use Rattle.al_query_store.proofs.SpotLemmas.{spot_equiv, spot_one}
use Rattle.al_unit_graph.specs.Headers.{Library}
use Rattle.al_engine_refresh.specs.Stored.{Stored, log_of}
use Rattle.al_engine_refresh.specs.Moves.{Entries, IsLeft, has_moved}
use Rattle.al_engine_refresh.specs.Staying.{is_there}
use Rattle.al_engine_refresh.specs.Builds.{raised}
use Rattle.al_engine_refresh.specs.Moving.{AreLeaving, IsCompared}
use Rattle.al_engine.specs.Rebuilds.{IsWithin, is_left, is_moved}

raised-least : (n : ℕ) → raised 0 n ≤ n
raised-least n = grind (arith, nat_tests)

raised-more : (n m : ℕ) → n ≤ m → raised 0 n ≤ raised 0 m
raised-more n m h = grind (arith, nat_tests, h)

module _ (lib : Library) (checked : List UnitKey) (old mid new : Entries) (left : IsLeft old mid) (ended : (u : UnitKey) → state new u ≡ kept_state (settled_state (state mid u))) (leaving : AreLeaving lib mid) (made : (u : UnitKey) → (Contains checked u → is_some (state mid u).made ≡ true) × (is_some (state mid u).made ≡ true → Contains checked u)) where
  -- the settled entries are as before
  answer-based : (o n : Option (Held Stored)) (i : ℕ) → option_map base n ≡ option_map base o → option_and_then (λ (h : Held Stored). slice_get (log_of h.entry) i) n ≡ option_and_then (λ (h : Held Stored). slice_get (log_of h.entry) i) o
  answer-based None None i e = refl
  answer-based (Some h) None i e = absurd (cc)
  answer-based None (Some h) i e = absurd (cc)
  answer-based (Some h) (Some g) i e = let same : base g ≡ base h = cc in ap (λ (x : Held Stored). slice_get (log_of x.entry) i) same

  answers-left : (p : Spot) → answer_of log_of mid p ≡ answer_of log_of old p
  answers-left p = answer-based (state old p.unit).settled (state mid p.unit).settled p.at (ap (λ (s : State Stored). s.settled) (left p.unit))

  same-bool : (a b : Bool) → (a ≡ true → b ≡ true) → (b ≡ true → a ≡ true) → a ≡ b
  same-bool true true f g = refl
  same-bool false false f g = refl
  same-bool true false f g = sym (f refl)
  same-bool false true f g = g refl

  was-made : (u : UnitKey) → is_some (state mid u).made ≡ has_unit checked u
  was-made u = same-bool (is_some (state mid u).made) (has_unit checked u) (λ h. contains-has checked u ((made u).1 h)) (λ h. (made u).0 (has-contains checked u h))

  some-based : (o n : Option (Held Stored)) → option_map base n ≡ option_map base o → is_some n ≡ is_some (option_map (λ (h : Held Stored). h.entry) o)
  some-based None None e = refl
  some-based (Some h) None e = absurd (cc)
  some-based None (Some h) e = absurd (cc)
  some-based (Some h) (Some g) e = refl

  leaves-so : (u : UnitKey) → (state mid u).leaves ≡ (is_some (settled_at old u) && not (is_there lib u))
  leaves-so u = leaving.leaves u ∙ ap (λ (b : Bool). b && not (is_there lib u)) (some-based (state old u).settled (state mid u).settled (ap (λ (s : State Stored). s.settled) (left u)))

  reached-so : (u : UnitKey) → (state new u).was_reached ≡ (state mid u).is_reached
  reached-so u = ap (λ (s : State Stored). s.was_reached) (ended u) ∙ by (state mid u).leaves refl
    where
      by : (b : Bool) → (state mid u).leaves ≡ b → (settled_state (state mid u)).was_reached ≡ (state mid u).is_reached
      by false e = ap (λ (x : Bool). (settled_state (record { settled = (state mid u).settled; made = (state mid u).made; was_reached = (state mid u).was_reached; is_reached = (state mid u).is_reached; leaves = x })).was_reached) e
      by true e = ap (λ (x : Bool). (settled_state (record { settled = (state mid u).settled; made = (state mid u).made; was_reached = (state mid u).was_reached; is_reached = (state mid u).is_reached; leaves = x })).was_reached) e ∙ sym (leaving.unreached u e)

  moved-so : (u : UnitKey) → is_moved lib checked old new u ≡ has_moved mid u
  moved-so u =
      ap (λ (b : Bool). b || (is_some (settled_at old u) && not (is_there lib u)) || differ (state old u).was_reached (state new u).was_reached) (sym (was-made u))
      ∙ ap (λ (b : Bool). is_some (state mid u).made || b || differ (state old u).was_reached (state new u).was_reached) (sym (leaves-so u))
      ∙ ap (λ (b : Bool). is_some (state mid u).made || (state mid u).leaves || differ b (state new u).was_reached) (sym (ap (λ (s : State Stored). s.was_reached) (left u)))
      ∙ ap (λ (b : Bool). is_some (state mid u).made || (state mid u).leaves || differ (state mid u).was_reached b) (reached-so u)

  whole-test : (p : Spot) → asks (is_moved lib checked old new) (answer_of log_of old p) ≡ asks (has_moved mid) (answer_of log_of mid p)
  whole-test p = ap (asks (is_moved lib checked old new)) (sym (answers-left p)) ∙ by (answer_of log_of mid p)
    where
      by : (o : Option (Query × AnswerKind)) → asks (is_moved lib checked old new) o ≡ asks (has_moved mid) o
      by None = refl
      by (Some e) = moved-so (unit_of e.0)

  and_right : (a b : Bool) → (a && b) ≡ true → b ≡ true
  and_right true b h = h
  and_right false b h = absurd (true≢false (sym h))

  pub within : (compared : ℕ) → IsCompared mid compared → IsWithin lib checked old new compared
  within compared is =
      let most : HasAnswers log_of (λ u. true) (is_moved lib checked old new) old is.0 = same_count same_spot spot_equiv spot_one (λ p. asks (has_moved mid) (answer_of log_of mid p)) (λ p. asks (is_moved lib checked old new) (answer_of log_of old p)) is.0 whole-test is.1 in
      let part : (Spot → Bool) = λ p. is_left lib checked p.unit && asks (is_moved lib checked old new) (answer_of log_of old p) in
      let some = some_count same_spot spot_equiv spot_one (λ p. asks (is_moved lib checked old new) (answer_of log_of old p)) part is.0 (λ p h. and_right (is_left lib checked p.unit) (asks (is_moved lib checked old new) (answer_of log_of old p)) h) most in
      let fewer = fewer_count same_spot spot_equiv spot_one part (λ p. asks (is_moved lib checked old new) (answer_of log_of old p)) some.0 is.0 (λ p h. and_right (is_left lib checked p.unit) (asks (is_moved lib checked old new) (answer_of log_of old p)) h) some.1 most in
      record {
        most = is.0;
        is_most = most;
        at_most = subst (λ (n : ℕ). n ≤ is.0) (sym is.2) (raised-least is.0);
        least = some.0;
        is_least = some.1;
        at_least = subst (λ (n : ℕ). raised 0 some.0 ≤ n) (sym is.2) (raised-more some.0 is.0 fewer);
      }

-- if no unit moves, nothing is compared
pub still-within : (lib : Library) (checked : List UnitKey) (store : Entries) → ((u : UnitKey) → is_moved lib checked store store u ≡ false) → IsWithin lib checked store store 0
unfolding IsDistinct
still-within lib checked store still = record {
  most = 0;
  is_most = record { items = []; apart = tt; whole = λ p h. absurd (true≢false (sym h ∙ none (answer_of log_of store p))); counted = refl };
  at_most = omega arith;
  least = 0;
  is_least = record { items = []; apart = tt; whole = λ p h. absurd (true≢false (sym (and_right (is_left lib checked p.unit) (asks (is_moved lib checked store store) (answer_of log_of store p)) h) ∙ none (answer_of log_of store p))); counted = refl };
  at_least = raised-least 0;
}
  where
    none : (o : Option (Query × AnswerKind)) → asks (is_moved lib checked store store) o ≡ false
    none None = refl
    none (Some e) = still (unit_of e.0)

    and_right : (a b : Bool) → (a && b) ≡ true → b ≡ true
    and_right true b h = h
    and_right false b h = absurd (true≢false (sym h))
