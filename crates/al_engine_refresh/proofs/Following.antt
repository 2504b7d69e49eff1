-- The marks of now follow what the units answer now.
use Rattle.std.proofs.Common.{◌≡◌, inl, inr, Bool, true, false, List, Option, Some, None, refl, sym, ◌∙◌, ap, subst, if◌then◌else◌}
use Rattle.std.specs.Option.{option_map}
use Rattle.al_base.specs.declared.unit_key.UnitKey.{UnitKey}
use Rattle.al_view.specs.Symbols.{same_unit}
use Rattle.al_view.proofs.SymbolLemmas.{same_unit-one, same_unit-self}
use Rattle.al_query.specs.Known.{has_unit, predefined_units}
use Rattle.al_query.specs.Queries.{unit_of}
use Rattle.al_query.specs.declared.answer.AnswerKind.{AnswerKind}
use Rattle.al_query.specs.declared.query.Query.{Query}
use Rattle.al_query_outcome.specs.Equations.{entry}
use Rattle.al_query_outcome.proofs.Names.{tested}
use Rattle.al_query_store.specs.Marking.{MarksTell}
use Rattle.al_query_store.specs.Stored.{base}
use Rattle.al_query_store.specs.declared.slots.Held.{Held}
use Rattle.al_query_store.specs.Changes.{AreCompared, ComparesUnit}
use Rattle.al_query_store.specs.Keyed.{Changes, State, base_state, entry_of, first_of, now_at, state}
use Rattle.al_query_store.proofs.TellLemmas.{tells-follow}
use Rattle.al_engine_refresh.specs.Stored.{Stored, log_of, outcome_of}
use Rattle.al_engine_refresh.specs.Moves.{Entries}
use Rattle.al_engine_refresh.specs.Builds.{present, results_of}
use Rattle.al_engine_refresh.specs.Moving.{MarksFollow, now_table}

-- the entry of now in a state
abbrev pub now_of : State Stored → Option Stored
now_of s = if s.is_reached then first_of (entry_of s.made) (entry_of s.settled) else None

pub entry-base : (o : Option (Held Stored)) → entry_of (option_map base o) ≡ entry_of o
entry-base None = refl
entry-base (Some h) = refl

pub now-base : (s : State Stored) → now_of (base_state s) ≡ now_of s
now-base s =
    ap (λ (o : Option Stored). if s.is_reached then first_of o (entry_of (option_map base s.settled)) else None) (entry-base s.made)
    ∙ ap (λ (o : Option Stored). if s.is_reached then first_of (entry_of s.made) o else None) (entry-base s.settled)

-- states that are the same but for marks of now
pub now-same : (a b : State Stored) → base_state a ≡ base_state b → now_of a ≡ now_of b
now-same a b e = sym (now-base a) ∙ ap now_of e ∙ now-base b

pub turned-unit : (a b : UnitKey) (x : Bool) → same_unit a b ≡ x → same_unit b a ≡ x
turned-unit a b true e = subst (λ (z : UnitKey). same_unit z a ≡ true) (same_unit-one a b e) (same_unit-self a)
turned-unit a b false e =
    elim (tested (same_unit b a)) as (λ _. same_unit b a ≡ false) [
      | inl k ↦ let t : same_unit a b ≡ true = subst (λ (z : UnitKey). same_unit z b ≡ true) (same_unit-one b a k) (same_unit-self b) in absurd (cc)
      | inr k ↦ k
    ]

module _ (pre : Query → AnswerKind) (f : State Stored → State Stored) (unit : UnitKey) (old mid new : Entries) (changes : Changes f unit old mid) (keeps : (s : State Stored) → (f s).settled ≡ s.settled) (compares : ComparesUnit log_of (present pre (λ u. results_of (now_at mid) unit)) unit mid new) where
  abbrev told : Query → AnswerKind
  told = present pre (λ u. results_of (now_at mid) unit)

  settled-mid : (u : UnitKey) → (state mid u).settled ≡ (state old u).settled
  settled-mid u = ap (λ (s : State Stored). s.settled) (changes u) ∙ by (same_unit unit u)
    where
      by : (b : Bool) → (if b then f (state old u) else state old u).settled ≡ (state old u).settled
      by true = keeps (state old u)
      by false = refl

  answered : (q : Query) (a b : Option Stored) → a ≡ b → (if has_unit predefined_units (unit_of q) then pre q else entry (option_map outcome_of a) q) ≡ (if has_unit predefined_units (unit_of q) then pre q else entry (option_map outcome_of b) q)
  answered q a b e = ap (λ (o : Option Stored). if has_unit predefined_units (unit_of q) then pre q else entry (option_map outcome_of o) q) e

  of_unit : (q : Query) → same_unit (unit_of q) unit ≡ true → now_table pre new q ≡ told q
  of_unit q is = answered q (now_at new (unit_of q)) (now_at mid unit) (now-same (state new (unit_of q)) (state mid (unit_of q)) (compares.base (unit_of q)) ∙ ap (now_at mid) (same_unit-one (unit_of q) unit is))

  others : (q : Query) → same_unit (unit_of q) unit ≡ false → now_table pre new q ≡ now_table pre old q
  others q is =
      let apart = turned-unit (unit_of q) unit false is in
      answered q (now_at new (unit_of q)) (now_at old (unit_of q))
      (now-same (state new (unit_of q)) (state mid (unit_of q)) (compares.base (unit_of q))
      ∙ ap now_of (changes (unit_of q) ∙ ap (λ (b : Bool). if b then f (state old (unit_of q)) else state old (unit_of q)) apart))

  based : (a b : Option (Held Stored)) (h : Held Stored) → option_map base a ≡ option_map base b → a ≡ Some h → (g : Held Stored) × (b ≡ Some g) × (base h ≡ base g)
  based None b h e is = absurd (cc)
  based (Some x) None h e is = absurd (cc)
  based (Some x) (Some g) h e is =
      let one : x ≡ h = cc in
      let same : base x ≡ base g = cc in
      (g, refl, ap base (sym one) ∙ same)

  pub marks-follow : MarksFollow pre old → MarksFollow pre new
  marks-follow before u h is =
      let g = based (state new u).settled (state mid u).settled h (ap (λ (s : State Stored). s.settled) (compares.base u)) is in
      let was : (state old u).settled ≡ Some g.0 = sym (settled-mid u) ∙ g.1 in
      let compared : AreCompared told unit (log_of g.0.entry) g.0.marks.now h.marks.now = compares.marks u g.0 h g.1 is in
      let log : log_of g.0.entry ≡ log_of h.entry = ap (λ (x : Held Stored). log_of x.entry) (sym g.2) in
      subst (λ (l : List (Query × AnswerKind)). MarksTell (now_table pre new) l h.marks.now) log
      (tells-follow (now_table pre old) told (now_table pre new) unit (log_of g.0.entry) g.0.marks.now h.marks.now (before u g.0 was) compared of_unit others)
