-- Who isn't reached any more, and who leaves.
use Rattle.std.proofs.Common.{◌≡◌, ◌||◌, ◌&&◌, ◌++◌, ◌+◌, ◌<◌, ℕ, Bool, true, false, not, List, [], ◌∷◌, Option, Some, None, refl, sym, ◌∙◌, ap, subst, is_some, unwrap_or, length, take, get_or, if◌then◌else◌}
use Rattle.std.specs.Map.{keys_of}
use Rattle.std.specs.Option.{option_map}
use Rattle.std.proofs.lemmas.Bool.{true≢false}
use Rattle.std.proofs.lemmas.List.Folds.{list_any-append}
use Rattle.al_base.specs.declared.unit_key.UnitKey.{UnitKey}
use Rattle.al_view.specs.Symbols.{same_unit}
use Rattle.al_view.proofs.SymbolLemmas.{same_unit-one, same_unit-self}
use Rattle.al_query.specs.Known.{has_unit}
use Rattle.al_query.specs.declared.answer.AnswerKind.{AnswerKind}
use Rattle.al_query.specs.declared.query.Query.{Query}
use Rattle.al_unit_graph.specs.Headers.{Library}
use Rattle.al_query_store.specs.Units.{at_unit}
use Rattle.al_query_store.specs.Stored.{base}
use Rattle.al_query_store.specs.declared.slots.Held.{Held}
use Rattle.al_query_store.specs.Keyed.{State, base_state, leaving, nothing, state, with_reached}
use Rattle.al_engine_refresh.specs.Stored.{Stored}
use Rattle.al_engine_refresh.specs.Moves.{AreQuiet, Entries, has_moved}
use Rattle.al_engine_refresh.specs.Staying.{is_there}
use Rattle.al_engine_refresh.specs.Moving.{LeftOut, MarksFollow, Turned, left_out}
use Rattle.al_engine_refresh.proofs.Comparing.{moved-same, quiet-unmoved}
use Rattle.al_engine_refresh.proofs.Following.{turned-unit}
use Rattle.al_engine_refresh.proofs.LoopLemmas.{done-at}

abbrev with_settled : State Stored → Option (Held Stored) → State Stored
with_settled s o = record { settled = o; made = s.made; was_reached = s.was_reached; is_reached = s.is_reached; leaves = s.leaves }

-- whoever is left out is so whatever the marks of now are, and once
left_out-based : (a b : Bool) (s : State Stored) → base_state (left_out a b s) ≡ left_out a b (base_state s)
left_out-based a b s = by s.settled a b
  where
    by : (o : Option (Held Stored)) (a b : Bool) → base_state (left_out a b (with_settled s o)) ≡ left_out a b (base_state (with_settled s o))
    by None true true = refl
    by None true false = refl
    by None false true = refl
    by None false false = refl
    by (Some h) true true = refl
    by (Some h) true false = refl
    by (Some h) false b = refl

left_out-twice : (a b : Bool) (s : State Stored) → left_out a b (left_out a b s) ≡ left_out a b s
left_out-twice a b s = by s.settled a b
  where
    by : (o : Option (Held Stored)) (a b : Bool) → left_out a b (left_out a b (with_settled s o)) ≡ left_out a b (with_settled s o)
    by None true true = refl
    by None true false = refl
    by None false true = refl
    by None false false = refl
    by (Some h) true true = refl
    by (Some h) true false = refl
    by (Some h) false b = refl

left_out-nothing : (a b : Bool) → left_out a b nothing ≡ nothing
left_out-nothing a true = refl
left_out-nothing a false = refl

-- a change that does the same to the unit
pub turned-as : (pre : Query → AnswerKind) (f g : State Stored → State Stored) (unit : UnitKey) (old new : Entries) → f (state old unit) ≡ g (state old unit) → Turned pre f unit old new → Turned pre g unit old new
turned-as pre f g unit old new same turned = record { states = λ u. turned.states u ∙ by u (same_unit unit u) refl; marks = turned.marks }
  where
    by : (u : UnitKey) (b : Bool) → same_unit unit u ≡ b → base_state (if same_unit unit u then f (state old u) else state old u) ≡ base_state (if same_unit unit u then g (state old u) else state old u)
    by u b e = ap (λ (x : Bool). base_state (if x then f (state old u) else state old u)) e ∙ at b e ∙ sym (ap (λ (x : Bool). base_state (if x then g (state old u) else state old u)) e)
      where
        at : (x : Bool) → same_unit unit u ≡ x → base_state (if x then f (state old u) else state old u) ≡ base_state (if x then g (state old u) else state old u)
        at true k = ap base_state (subst (λ (v : UnitKey). f (state old v) ≡ g (state old v)) (same_unit-one unit u k) same)
        at false k = refl

-- nothing is changed
pub turned-still : (pre : Query → AnswerKind) (f : State Stored → State Stored) (unit : UnitKey) (old : Entries) → f (state old unit) ≡ state old unit → Turned pre f unit old old
turned-still pre f unit old same = record { states = λ u. by u (same_unit unit u) refl; marks = λ m. m }
  where
    by : (u : UnitKey) (b : Bool) → same_unit unit u ≡ b → base_state (state old u) ≡ base_state (if same_unit unit u then f (state old u) else state old u)
    by u true k = sym (ap (λ (x : Bool). base_state (if x then f (state old u) else state old u)) k ∙ ap base_state (subst (λ (v : UnitKey). f (state old v) ≡ state old v) (same_unit-one unit u k) same))
    by u false k = sym (ap (λ (x : Bool). base_state (if x then f (state old u) else state old u)) k)

-- what is done to a unit: it has an entry and isn't there; or it isn't in the order
pub left_out-leaves : (a b : Bool) (s : State Stored) → (is_some s.settled && not a) ≡ true → leaving s ≡ left_out a b s
left_out-leaves a b s gone = sym (ap (λ (c : Bool). if c then leaving s else (if b then s else with_reached false s)) gone)

pub left_out-stays : (a b : Bool) (s : State Stored) → (is_some s.settled && not a) ≡ false → b ≡ true → left_out a b s ≡ s
left_out-stays a b s stays ordered =
    ap (λ (c : Bool). if c then leaving s else (if b then s else with_reached false s)) stays
    ∙ ap (λ (c : Bool). if c then s else with_reached false s) ordered

pub left_out-turns : (a b : Bool) (s : State Stored) → (is_some s.settled && not a) ≡ false → b ≡ false → with_reached false s ≡ left_out a b s
left_out-turns a b s stays out = sym (
    ap (λ (c : Bool). if c then leaving s else (if b then s else with_reached false s)) stays
    ∙ ap (λ (c : Bool). if c then s else with_reached false s) out)

more : (units : List UnitKey) (unit u : UnitKey) (b : Bool) → same_unit unit u ≡ b → has_unit (units ++ unit ∷ []) u ≡ (has_unit units u || b)
more units unit u b e =
    list_any-append (same_unit u) units (unit ∷ [])
    ∙ ap (λ (x : Bool). has_unit units u || (x || false)) (turned-unit unit u b e) ∙ ap (λ (x : Bool). has_unit units u || x) (or_false b)
  where
    or_false : (x : Bool) → (x || false) ≡ x
    or_false true = refl
    or_false false = refl

or_true : (x : Bool) → (x || true) ≡ true
or_true true = refl
or_true false = refl

or_none : (x : Bool) → (x || false) ≡ x
or_none true = refl
or_none false = refl

-- a set of units with one unit more
pub set-more : (units : List UnitKey) (i : ℕ) (unit copy : UnitKey) (old new : List (UnitKey × Bool)) → i < length units → unit ≡ get_or units i unit → copy ≡ unit → ((u : UnitKey) → at_unit new u ≡ (if same_unit copy u then Some true else at_unit old u)) → ((u : UnitKey) → is_some (at_unit old u) ≡ has_unit (take i units) u) → (u : UnitKey) → is_some (at_unit new u) ≡ has_unit (take (i + 1) units) u
set-more units i unit copy old new h is same inserts before u =
    ap is_some (inserts u ∙ ap (λ (v : UnitKey). if same_unit v u then Some true else at_unit old u) same) ∙ by (same_unit unit u) refl
    ∙ sym (ap (λ (us : List UnitKey). has_unit us u) (done-at units i unit h is))
  where
    by : (b : Bool) → same_unit unit u ≡ b → is_some (if same_unit unit u then Some true else at_unit old u) ≡ has_unit (take i units ++ unit ∷ []) u
    by true e = ap (λ (b : Bool). is_some (if b then Some true else at_unit old u)) e ∙ sym (more (take i units) unit u true e ∙ or_true (has_unit (take i units) u))
    by false e = ap (λ (b : Bool). is_some (if b then Some true else at_unit old u)) e ∙ before u ∙ sym (more (take i units) unit u false e ∙ or_none (has_unit (take i units) u))

module _ (lib : Library) (ordered : UnitKey → Bool) (old : Entries) where
  abbrev left_at : UnitKey → State Stored
  left_at u = left_out (is_there lib u) (ordered u) (state old u)

  -- these units are left out, all others are as before
  abbrev pub LeftSoFar : List UnitKey → Entries → Type 0
  LeftSoFar units store = (u : UnitKey) → base_state (state store u) ≡ base_state (if has_unit units u then left_at u else state old u)

  module _ (units : List UnitKey) (unit : UnitKey) (mid new : Entries) (so_far : LeftSoFar units mid) where
    -- one unit more
    left-more : base_state (state new unit) ≡ base_state (left_at unit) → ((u : UnitKey) → same_unit unit u ≡ false → base_state (state new u) ≡ base_state (state mid u)) → LeftSoFar (units ++ unit ∷ []) new
    left-more here others u = by (same_unit unit u) refl
      where
        by : (b : Bool) → same_unit unit u ≡ b → base_state (state new u) ≡ base_state (if has_unit (units ++ unit ∷ []) u then left_at u else state old u)
        by true e =
            subst (λ (v : UnitKey). base_state (state new v) ≡ base_state (left_at v)) (same_unit-one unit u e) here
            ∙ sym (ap (λ (b : Bool). base_state (if b then left_at u else state old u)) (more units unit u true e ∙ or_true (has_unit units u)))
        by false e =
            others u e ∙ so_far u
            ∙ sym (ap (λ (b : Bool). base_state (if b then left_at u else state old u)) (more units unit u false e ∙ or_none (has_unit units u)))

    pub left-turned : (pre : Query → AnswerKind) → Turned pre (left_out (is_there lib unit) (ordered unit)) unit mid new → LeftSoFar (units ++ unit ∷ []) new
    left-turned pre turned = left-more (here ∙ by (has_unit units unit) refl) others
      where
        here : base_state (state new unit) ≡ left_out (is_there lib unit) (ordered unit) (base_state (state mid unit))
        here =
            turned.states unit ∙ ap (λ (b : Bool). base_state (if b then left_out (is_there lib unit) (ordered unit) (state mid unit) else state mid unit)) (same_unit-self unit)
            ∙ left_out-based (is_there lib unit) (ordered unit) (state mid unit)

        by : (b : Bool) → has_unit units unit ≡ b → left_out (is_there lib unit) (ordered unit) (base_state (state mid unit)) ≡ base_state (left_at unit)
        by true e =
            ap (left_out (is_there lib unit) (ordered unit)) (so_far unit ∙ ap (λ (b : Bool). base_state (if b then left_at unit else state old unit)) e)
            ∙ sym (left_out-based (is_there lib unit) (ordered unit) (left_at unit))
            ∙ ap base_state (left_out-twice (is_there lib unit) (ordered unit) (state old unit))
        by false e =
            ap (left_out (is_there lib unit) (ordered unit)) (so_far unit ∙ ap (λ (b : Bool). base_state (if b then left_at unit else state old unit)) e)
            ∙ sym (left_out-based (is_there lib unit) (ordered unit) (state old unit))

        others : (u : UnitKey) → same_unit unit u ≡ false → base_state (state new u) ≡ base_state (state mid u)
        others u e = turned.states u ∙ ap (λ (b : Bool). base_state (if b then left_out (is_there lib unit) (ordered unit) (state mid u) else state mid u)) e

  -- a unit that moved already is left out already
  pub left-moved : (units : List UnitKey) (unit : UnitKey) (store : Entries) → LeftSoFar units store → AreQuiet old → has_moved store unit ≡ true → LeftSoFar (units ++ unit ∷ []) store
  left-moved units unit store so_far quiet moved = left-more units unit store store so_far (by (has_unit units unit) refl) (λ u e. refl)
    where
      by : (b : Bool) → has_unit units unit ≡ b → base_state (state store unit) ≡ base_state (left_at unit)
      by true e = so_far unit ∙ ap (λ (b : Bool). base_state (if b then left_at unit else state old unit)) e
      by false e = absurd (true≢false (sym moved ∙ moved-same (state store unit) (state old unit) (so_far unit ∙ ap (λ (b : Bool). base_state (if b then left_at unit else state old unit)) e) ∙ quiet-unmoved old quiet unit))

  no_key : (es : Entries) (u : UnitKey) → has_unit (keys_of es) u ≡ false → at_unit es u ≡ None
  no_key [] u none = refl
  no_key (e ∷ es) u none = by (same_unit u e.0) refl (no_key es u)
    where
      by : (b : Bool) → same_unit u e.0 ≡ b → (has_unit (keys_of es) u ≡ false → at_unit es u ≡ None) → (if same_unit u e.0 then Some e.1 else at_unit es u) ≡ None
      by true k later = absurd (true≢false (sym (ap (λ (b : Bool). b || has_unit (keys_of es) u) k) ∙ none))
      by false k later = ap (λ (b : Bool). if b then Some e.1 else at_unit es u) k ∙ later (sym (ap (λ (b : Bool). b || has_unit (keys_of es) u) k) ∙ none)

  -- in the end all are
  pub left-all : (units : List UnitKey) → units ≡ keys_of old → (store : Entries) → LeftSoFar units store → (u : UnitKey) → base_state (state store u) ≡ base_state (left_at u)
  left-all units all store so_far u = so_far u ∙ by (has_unit units u) refl
    where
      by : (b : Bool) → has_unit units u ≡ b → base_state (if has_unit units u then left_at u else state old u) ≡ base_state (left_at u)
      by true e = ap (λ (b : Bool). base_state (if b then left_at u else state old u)) e
      by false e =
          let none : state old u ≡ nothing = ap (λ (o : Option (State Stored)). unwrap_or o nothing) (no_key old u (sym (ap (λ (us : List UnitKey). has_unit us u) all) ∙ e)) in
          ap (λ (b : Bool). base_state (if b then left_at u else state old u)) e
          ∙ ap base_state (none ∙ sym (left_out-nothing (is_there lib u) (ordered u)) ∙ ap (left_out (is_there lib u) (ordered u)) (sym none))

abbrev pick : Bool → Bool → State Stored → State Stored
pick c b s = if c then leaving s else (if b then s else with_reached false s)

picked-settled : (c b : Bool) (s : State Stored) → (pick c b s).settled ≡ s.settled
picked-settled true b s = refl
picked-settled false true s = refl
picked-settled false false s = refl

picked-made : (c b : Bool) (s : State Stored) → (pick c b s).made ≡ s.made
picked-made true b s = refl
picked-made false true s = refl
picked-made false false s = refl

picked-leaves : (c b : Bool) (s : State Stored) → s.leaves ≡ false → (pick c b s).leaves ≡ c
picked-leaves true b s h = refl
picked-leaves false true s h = h
picked-leaves false false s h = h

picked-reached : (c b : Bool) (s : State Stored) → b ≡ false → (pick c b s).is_reached ≡ false
picked-reached true b s h = refl
picked-reached false true s h = absurd (true≢false h)
picked-reached false false s h = refl

picked-gone : (c b : Bool) (s : State Stored) → c ≡ true → (pick c b s).is_reached ≡ false
picked-gone true b s h = refl
picked-gone false b s h = absurd (true≢false (sym h))

based-some : (a b : Option (Held Stored)) → option_map base a ≡ option_map base b → is_some a ≡ is_some b
based-some None None k = refl
based-some (Some x) None k = absurd (cc)
based-some None (Some x) k = absurd (cc)
based-some (Some x) (Some y) k = refl

based-none : (a b : Option (Held Stored)) → option_map base a ≡ option_map base b → b ≡ None → a ≡ None
based-none None b k h = refl
based-none (Some x) b k h = let no : option_map base (Some x) ≡ None = k ∙ ap (option_map base) h in absurd (cc)

abbrev is_gone : Library → State Stored → UnitKey → Bool
is_gone lib s u = is_some s.settled && not (is_there lib u)

pub left-out : (pre : Query → AnswerKind) (lib : Library) (order : List UnitKey) (ordered : UnitKey → Bool) (old new : Entries) → ((u : UnitKey) → ordered u ≡ has_unit order u) → AreQuiet old → ((u : UnitKey) → base_state (state new u) ≡ base_state (left_out (is_there lib u) (ordered u) (state old u))) → (MarksFollow pre old → MarksFollow pre new) → LeftOut pre lib order old new
left-out pre lib order ordered old new is quiet all marks = record {
  reached = λ u h. ap (λ (s : State Stored). s.is_reached) (all u) ∙ picked-reached (is_gone lib (state old u) u) (ordered u) (state old u) (is u ∙ h);
  leaving = record {
    leaves = λ u. leaves u ∙ ap (λ (b : Bool). b && not (is_there lib u)) (sym (some_settled u));
    unreached = λ u l. ap (λ (s : State Stored). s.is_reached) (all u) ∙ picked-gone (is_gone lib (state old u) u) (ordered u) (state old u) (sym (leaves u) ∙ l);
  };
  made = λ u. based-none (state new u).made (pick (is_gone lib (state old u) u) (ordered u) (state old u)).made (ap (λ (s : State Stored). s.made) (all u)) (picked-made (is_gone lib (state old u) u) (ordered u) (state old u) ∙ ap (λ (s : State Stored). s.made) (quiet u));
  unmoved = λ u h t. moved-same (state new u) (state old u) (all u ∙ ap base_state (left_out-stays (is_there lib u) (ordered u) (state old u) (kept (is_some (state old u).settled) (is_there lib u) t) (is u ∙ h))) ∙ quiet-unmoved old quiet u;
  marks = marks;
}
  where
    leaves : (u : UnitKey) → (state new u).leaves ≡ (is_some (state old u).settled && not (is_there lib u))
    leaves u = ap (λ (s : State Stored). s.leaves) (all u) ∙ picked-leaves (is_gone lib (state old u) u) (ordered u) (state old u) (ap (λ (s : State Stored). s.leaves) (quiet u))

    some_settled : (u : UnitKey) → is_some (state new u).settled ≡ is_some (state old u).settled
    some_settled u = based-some (state new u).settled (state old u).settled (ap (λ (s : State Stored). s.settled) (all u) ∙ ap (option_map base) (picked-settled (is_gone lib (state old u) u) (ordered u) (state old u)))

    kept : (a b : Bool) → b ≡ true → (a && not b) ≡ false
    kept true true h = refl
    kept false true h = refl
    kept a false h = absurd (true≢false (sym h))
