-- How many stored answers were compared, if one unit more moved.
use Rattle.std.proofs.Common.{◌≡◌, ◌+◌, ◌||◌, ℕ, Bool, true, false, [], Option, Some, None, refl, sym, ◌∙◌, ap, subst, is_some, slice_get, arith, if◌then◌else◌}
use Rattle.std.specs.List.{IsDistinct}
use Rattle.std.specs.Option.{option_and_then, option_map}
use Rattle.std.proofs.lemmas.Bool.{true≢false}
use Rattle.std.proofs.lemmas.Bool.Decides.{nat_tests}
use Rattle.al_base.specs.declared.unit_key.UnitKey.{UnitKey}
use Rattle.al_view.specs.Symbols.{same_unit}
use Rattle.al_view.proofs.SymbolLemmas.{same_unit-one, same_unit-self}
use Rattle.al_query.specs.Queries.{unit_of}
use Rattle.al_query.specs.declared.answer.AnswerKind.{AnswerKind}
use Rattle.al_query.specs.declared.query.Query.{Query}
use Rattle.al_query_store.specs.Stored.{base}
use Rattle.al_query_store.specs.declared.slots.Held.{Held}
use Rattle.al_query_store.proofs.CountLemmas.{sum_count}
use Rattle.al_query_store.specs.Changes.{HasAnswers, Spot, answer_of, asks, same_spot}
use Rattle.al_query_store.specs.Keyed.{Changes, State, base_state, differ, state}
use Rattle.al_query_store.proofs.SpotLemmas.{spot_equiv, spot_one}
use Rattle.al_engine_refresh.specs.Stored.{Stored, log_of}
use Rattle.al_engine_refresh.specs.Moves.{AreQuiet, Entries, has_moved}
use Rattle.al_engine_refresh.specs.Builds.{raised}
use Rattle.al_engine_refresh.specs.Moving.{IsCompared}

raised-twice : (n k : ℕ) → raised (raised 0 n) k ≡ raised 0 (n + k)
raised-twice n k = grind (arith, nat_tests)

-- whether a unit with this state moved
abbrev pub moved_of : State Stored → Bool
moved_of s = is_some s.made || s.leaves || differ s.was_reached s.is_reached

some-base : (o : Option (Held Stored)) → is_some (option_map base o) ≡ is_some o
some-base None = refl
some-base (Some h) = refl

moved-base : (s : State Stored) → moved_of (base_state s) ≡ moved_of s
moved-base s = ap (λ (b : Bool). b || s.leaves || differ s.was_reached s.is_reached) (some-base s.made)

pub moved-same : (a b : State Stored) → base_state a ≡ base_state b → moved_of a ≡ moved_of b
moved-same a b e = sym (moved-base a) ∙ ap moved_of e ∙ moved-base b

turned : (a b : UnitKey) (x : Bool) → same_unit a b ≡ x → same_unit b a ≡ x
turned a b true e = subst (λ (z : UnitKey). same_unit z a ≡ true) (same_unit-one a b e) (same_unit-self a)
turned a b false e = by (same_unit b a) refl
  where
    by : (x : Bool) → same_unit b a ≡ x → same_unit b a ≡ false
    by false k = k
    by true k = absurd (true≢false (sym (subst (λ (z : UnitKey). same_unit z b ≡ true) (same_unit-one b a k) (same_unit-self b)) ∙ e))

answer-based : (o n : Option (Held Stored)) (i : ℕ) → option_map base n ≡ option_map base o → option_and_then (λ (h : Held Stored). slice_get (log_of h.entry) i) n ≡ option_and_then (λ (h : Held Stored). slice_get (log_of h.entry) i) o
answer-based None None i e = refl
answer-based (Some h) None i e = absurd (cc)
answer-based None (Some h) i e = absurd (cc)
answer-based (Some h) (Some g) i e = let same : base g ≡ base h = cc in ap (λ (x : Held Stored). slice_get (log_of x.entry) i) same

module _ (f : State Stored → State Stored) (unit : UnitKey) (old mid new : Entries) (changes : Changes f unit old mid) (keeps : (s : State Stored) → (f s).settled ≡ s.settled) (based : (u : UnitKey) → base_state (state new u) ≡ base_state (state mid u)) (unmoved : has_moved old unit ≡ false) (moves : moved_of (f (state old unit)) ≡ true) where
  answer-mid : (p : Spot) → answer_of log_of mid p ≡ answer_of log_of old p
  answer-mid p = ap (λ (s : State Stored). option_and_then (λ (h : Held Stored). slice_get (log_of h.entry) p.at) s.settled) (changes p.unit) ∙ by (same_unit unit p.unit)
    where
      by : (b : Bool) → option_and_then (λ (h : Held Stored). slice_get (log_of h.entry) p.at) (if b then f (state old p.unit) else state old p.unit).settled ≡ answer_of log_of old p
      by true = ap (option_and_then (λ (h : Held Stored). slice_get (log_of h.entry) p.at)) (keeps (state old p.unit))
      by false = refl

  answer-new : (p : Spot) → answer_of log_of new p ≡ answer_of log_of old p
  answer-new p = answer-based (state mid p.unit).settled (state new p.unit).settled p.at (ap (λ (s : State Stored). s.settled) (based p.unit)) ∙ answer-mid p

  moved-new : (u : UnitKey) → has_moved new u ≡ (has_moved old u || same_unit u unit)
  moved-new u = moved-same (state new u) (state mid u) (based u) ∙ ap moved_of (changes u) ∙ by (same_unit u unit) refl
    where
      or_true : (b : Bool) → true ≡ (b || true)
      or_true true = refl
      or_true false = refl

      or_false : (b : Bool) → b ≡ (b || false)
      or_false true = refl
      or_false false = refl

      by : (b : Bool) → same_unit u unit ≡ b → moved_of (if same_unit unit u then f (state old u) else state old u) ≡ (has_moved old u || b)
      by true e =
          ap (λ (b : Bool). moved_of (if b then f (state old u) else state old u)) (turned u unit true e)
          ∙ subst (λ (v : UnitKey). moved_of (f (state old v)) ≡ true) (sym (same_unit-one u unit e)) moves ∙ or_true (has_moved old u)
      by false e = ap (λ (b : Bool). moved_of (if b then f (state old u) else state old u)) (turned u unit false e) ∙ or_false (has_moved old u)

  both : (p : Spot) → asks (has_moved new) (answer_of log_of new p) ≡ (asks (has_moved old) (answer_of log_of old p) || asks (λ u. same_unit u unit) (answer_of log_of mid p))
  both p =
      ap (asks (has_moved new)) (answer-new p) ∙ by (answer_of log_of old p)
      ∙ ap (λ (o : Option (Query × AnswerKind)). asks (has_moved old) (answer_of log_of old p) || asks (λ u. same_unit u unit) o) (sym (answer-mid p))
    where
      by : (o : Option (Query × AnswerKind)) → asks (has_moved new) o ≡ (asks (has_moved old) o || asks (λ u. same_unit u unit) o)
      by None = refl
      by (Some e) = moved-new (unit_of e.0)

  apart : (p : Spot) → asks (has_moved old) (answer_of log_of old p) ≡ true → asks (λ u. same_unit u unit) (answer_of log_of mid p) ≡ false
  apart p h = ap (asks (λ u. same_unit u unit)) (answer-mid p) ∙ by (answer_of log_of old p) h
    where
      other : (u : UnitKey) → has_moved old u ≡ true → (b : Bool) → same_unit u unit ≡ b → same_unit u unit ≡ false
      other u m false e = e
      other u m true e = absurd (true≢false (sym (subst (λ (v : UnitKey). has_moved old v ≡ true) (same_unit-one u unit e) m) ∙ unmoved))

      by : (o : Option (Query × AnswerKind)) → asks (has_moved old) o ≡ true → asks (λ u. same_unit u unit) o ≡ false
      by None m = refl
      by (Some e) m = other (unit_of e.0) m (same_unit (unit_of e.0) unit) refl

  pub compared-more : (n m : ℕ) → IsCompared old n → (k : ℕ) → HasAnswers log_of (λ u. true) (λ u. same_unit u unit) mid k → m ≡ raised n k → IsCompared new m
  compared-more n m is k has rises = (
    is.0 + k,
    sum_count same_spot spot_equiv spot_one (λ p. asks (has_moved old) (answer_of log_of old p)) (λ p. asks (λ u. same_unit u unit) (answer_of log_of mid p)) apart (λ p. asks (has_moved new) (answer_of log_of new p)) is.0 k both is.1 has,
    rises ∙ ap (λ (x : ℕ). raised x k) is.2 ∙ raised-twice is.0 k,
  )

-- if no unit moved, nothing was compared
pub compared-none : (store : Entries) → ((u : UnitKey) → has_moved store u ≡ false) → IsCompared store 0
unfolding IsDistinct
compared-none store still = (
  0,
  record {
    items = [];
    apart = tt;
    whole = λ p h. absurd (true≢false (sym h ∙ none (answer_of log_of store p)));
    counted = refl;
  },
  zero_raised,
)
  where
    none : (o : Option (Query × AnswerKind)) → asks (has_moved store) o ≡ false
    none None = refl
    none (Some e) = still (unit_of e.0)

    zero_raised : 0 ≡ raised 0 0
    zero_raised = grind (arith, nat_tests)

differ-same : (b : Bool) → differ b b ≡ false
differ-same true = refl
differ-same false = refl

-- if nothing was made since the last build, no unit moved
pub quiet-unmoved : (store : Entries) → AreQuiet store → (u : UnitKey) → has_moved store u ≡ false
quiet-unmoved store quiet u = ap moved_of (quiet u) ∙ differ-same (state store u).was_reached
