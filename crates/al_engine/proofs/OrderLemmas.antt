-- What an order of dependence, and a store that is ready, give a build.
use Rattle.std.proofs.Common.{◌≡◌, ◌++◌, ◌||◌, ℕ, Bool, true, false, List, [], ◌∷◌, Option, Some, None, refl, sym, ◌∙◌, ap, subst, is_some, if◌then◌else◌}
use Rattle.std.specs.List.{AllByRecursion, IsDistinct, list_any}
use Rattle.std.specs.Option.{option_map}
use Rattle.std.proofs.lemmas.Bool.{true≢false}
use Rattle.std.proofs.lemmas.List.Folds.{list_any-append}
use Rattle.al_base.specs.declared.unit_key.UnitKey.{UnitKey}
use Rattle.al_view.specs.Symbols.{same_unit}
use Rattle.al_view.proofs.SymbolLemmas.{same_unit-one, same_unit-self}
use Rattle.al_query.specs.Known.{has_unit, predefined_units}
use Rattle.al_query.specs.Queries.{unit_of}
use Rattle.al_query.specs.declared.answer.AnswerKind.{AnswerKind}
use Rattle.al_query.specs.declared.query.Query.{Query}
use Rattle.al_query_outcome.specs.Equations.{Setting, entry}
use Rattle.al_query_store.specs.Marking.{MarksTell}
use Rattle.al_query_store.specs.Stored.{base}
use Rattle.al_query_store.specs.declared.slots.Held.{Held}
use Rattle.al_query_store.specs.Keyed.{State, before_at, entry_of, first_of, now_at, state}
use Rattle.al_query_store.proofs.TellLemmas.{tells-alike}
use Rattle.al_unit_graph.specs.Headers.{Header, Library}
use Rattle.al_engine_refresh.specs.Stored.{Stored, log_of, outcome_of}
use Rattle.al_engine_refresh.specs.Moves.{Entries, left_by_last}
use Rattle.al_engine_refresh.specs.Staying.{is_there}
use Rattle.al_engine_refresh.specs.Builds.{StandsAfter}
use Rattle.al_engine_refresh.specs.Moving.{MarksFollow, last_table, now_table}
use Rattle.al_engine.specs.Rechecks.{AreReady, HasOrder, setting_of}

-- a unit that comes after others is none of them
apart-after : (s : Setting) (rank : UnitKey → ℕ) (before rest : List UnitKey) → StandsAfter s rank before rest → (u : UnitKey) → has_unit before u ≡ true → AllByRecursion (λ v. same_unit u v ≡ false) rest
apart-after s rank before [] after u h = tt
apart-after s rank before (v ∷ rest) after u h = (by (same_unit u v) refl, apart-after s rank (before ++ v ∷ []) rest after.3 u (list_any-append (same_unit u) before (v ∷ []) ∙ ap (λ (b : Bool). b || list_any (same_unit u) (v ∷ [])) h))
  where
    by : (b : Bool) → same_unit u v ≡ b → same_unit u v ≡ false
    by false e = e
    by true e = absurd (true≢false (sym h ∙ subst (λ (x : UnitKey). has_unit before x ≡ false) (sym (same_unit-one u v e)) after.0))

distinct-after : (s : Setting) (rank : UnitKey → ℕ) (before rest : List UnitKey) → StandsAfter s rank before rest → IsDistinct same_unit rest
unfolding IsDistinct
distinct-after s rank before [] after = tt
distinct-after s rank before (v ∷ rest) after = (apart-after s rank (before ++ v ∷ []) rest after.3 v (last before v), distinct-after s rank (before ++ v ∷ []) rest after.3)
  where
    or_true : (b : Bool) → (b || (true || false)) ≡ true
    or_true true = refl
    or_true false = refl

    last : (us : List UnitKey) (v : UnitKey) → has_unit (us ++ v ∷ []) v ≡ true
    last us v = list_any-append (same_unit v) us (v ∷ []) ∙ ap (λ (b : Bool). list_any (same_unit v) us || (b || false)) (same_unit-self v) ∙ or_true (list_any (same_unit v) us)

pub faultless-after : (s : Setting) (rank : UnitKey → ℕ) (before rest : List UnitKey) → StandsAfter s rank before rest → (u : UnitKey) → has_unit rest u ≡ true → s.is_faultless u ≡ true
faultless-after s rank before [] after u h = absurd (true≢false (sym h))
faultless-after s rank before (v ∷ rest) after u h = by (same_unit u v) refl h (faultless-after s rank (before ++ v ∷ []) rest after.3 u)
  where
    by : (b : Bool) → same_unit u v ≡ b → (b || has_unit rest u) ≡ true → (has_unit rest u ≡ true → s.is_faultless u ≡ true) → s.is_faultless u ≡ true
    by true e k later = subst (λ (x : UnitKey). s.is_faultless x ≡ true) (sym (same_unit-one u v e)) after.1
    by false e k later = later k

module _ (header : List ℕ → Header) (pre : Query → AnswerKind) (lib : Library) (order : List UnitKey) (has : HasOrder header pre lib order) where
  pub order-distinct : IsDistinct same_unit order
  order-distinct = distinct-after (setting_of header pre lib) has.0.rank [] order has.1.after

  -- each unit of the order has a header in the library
  pub order-there : (u : UnitKey) → has_unit order u ≡ true → is_there lib u ≡ true
  order-there u h = ap is_some (has.0.headed u (faultless-after (setting_of header pre lib) has.0.rank [] order has.1.after u h))

-- the marks of now are those of the last build, and a unit is reached now if the last build reached it
module _ (pre : Query → AnswerKind) (store : Entries) (ready : AreReady pre store) where
  pub reached-alike : (u : UnitKey) → now_at store u ≡ before_at store u
  reached-alike u = ap now_of (ready.quiet u) ∙ by (state store u)
    where
      now_of : State Stored → Option Stored
      now_of s = if s.is_reached then first_of (entry_of s.made) (entry_of s.settled) else None

      last_of : State Stored → Option Stored
      last_of s = if s.was_reached then entry_of s.settled else None

      based : (o : Option (Held Stored)) → entry_of (option_map base o) ≡ entry_of o
      based None = refl
      based (Some h) = refl

      by : (s : State Stored) → now_of (left_by_last s) ≡ last_of s
      by s = ap (λ (o : Option Stored). if s.was_reached then o else None) (based s.settled)

  tables : (q : Query) → now_table pre store q ≡ last_table pre store q
  tables q = ap (λ (o : Option Stored). if has_unit predefined_units (unit_of q) then pre q else entry (option_map outcome_of o) q) (reached-alike (unit_of q))

  pub marks-same : (u : UnitKey) (h : Held Stored) → (state store u).settled ≡ Some h → h.marks.now ≡ h.marks.last
  marks-same u h is = by (state store u).settled (sym (ap (λ (s : State Stored). s.settled) (ready.quiet u)) ∙ is) is
    where
      by : (o : Option (Held Stored)) → option_map base o ≡ Some h → o ≡ Some h → h.marks.now ≡ h.marks.last
      by None e k = absurd (cc)
      by (Some g) e k =
          let one : base g ≡ h = cc in
          subst (λ (x : Held Stored). x.marks.now ≡ x.marks.last) one refl

  pub marks-ready : MarksFollow pre store
  marks-ready u h is =
      subst (λ (m : List Bool). MarksTell (now_table pre store) (log_of h.entry) m) (sym (marks-same u h is))
      (tells-alike (last_table pre store) (now_table pre store) (log_of h.entry) h.marks.last tables (ready.marks u h is))
