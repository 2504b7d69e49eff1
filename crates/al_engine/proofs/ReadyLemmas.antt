-- The entries once a build is settled.
use Rattle.std.proofs.Common.{◌≡◌, ℕ, Bool, true, false, List, [], ◌∷◌, Option, Some, None, refl, sym, ◌∙◌, ap, subst, length, replicate, is_some, if◌then◌else◌}
use Rattle.std.specs.Option.{option_map}
use Rattle.al_base.specs.declared.unit_key.UnitKey.{UnitKey}
use Rattle.al_query.specs.Known.{has_unit, predefined_units}
use Rattle.al_query.specs.Queries.{unit_of}
use Rattle.al_query.specs.Reads.{Agrees}
use Rattle.al_query.specs.declared.answer.AnswerKind.{AnswerKind}
use Rattle.al_query.specs.declared.query.Query.{Query}
use Rattle.al_query_outcome.specs.Equations.{entry, is_reached}
use Rattle.al_query_store.specs.Marking.{MarksTell}
use Rattle.al_query_store.specs.Stored.{base, kept, settled}
use Rattle.al_query_store.specs.declared.slots.Held.{Held}
use Rattle.al_query_store.specs.Keyed.{State, before_at, entry_of, first_of, kept_state, now_at, or_settled, settled_state, state}
use Rattle.al_query_store.proofs.TellLemmas.{tells-alike}
use Rattle.al_unit_graph.specs.Headers.{Header, Library}
use Rattle.al_engine_refresh.specs.EntryLaw.{HasCurrent, TextMeaning}
use Rattle.al_engine_refresh.specs.Stored.{Stored, log_of, outcome_of}
use Rattle.al_engine_refresh.specs.Moves.{Entries, left_by_last}
use Rattle.al_engine_refresh.specs.Builds.{results_of, text_of}
use Rattle.al_engine_refresh.specs.Moving.{last_table, now_table}
use Rattle.al_engine.specs.Rechecks.{AreReady, IsUpdated, UpdatesAreReady, setting_of}

-- an entry that was just taken over has its marks twice
based_kept : (o : Option (Held Stored)) → option_map base (option_map kept o) ≡ option_map kept o
based_kept None = refl
based_kept (Some h) = refl

abbrev with_leaves : State Stored → Bool → State Stored
with_leaves s b = record { settled = s.settled; made = s.made; was_reached = s.was_reached; is_reached = s.is_reached; leaves = b }

quiet-end : (s : State Stored) → kept_state (settled_state s) ≡ left_by_last (kept_state (settled_state s))
quiet-end s = by s.leaves
  where
    with_settled : Option (Held Stored) → State Stored
    with_settled o = record { settled = o; made = None; was_reached = s.is_reached; is_reached = s.is_reached; leaves = false }

    by : (b : Bool) → kept_state (settled_state (with_leaves s b)) ≡ left_by_last (kept_state (settled_state (with_leaves s b)))
    by true = refl
    by false = ap with_settled (sym (based_kept (or_settled s.made s.settled)))

pub entry-held : (o : Option (Held Stored)) → entry_of (option_map kept o) ≡ entry_of o
entry-held None = refl
entry-held (Some h) = refl

first-settled : (m o : Option (Held Stored)) → entry_of (or_settled m o) ≡ first_of (entry_of m) (entry_of o)
first-settled None o = refl
first-settled (Some h) o = refl

-- if a table gives the answers of an entry, none of its marks is set
unmarked-tells : (t : Query → AnswerKind) (log : List (Query × AnswerKind)) → Agrees t log → MarksTell t log (replicate (length log) false)
unmarked-tells t [] a = tt
unmarked-tells t (e ∷ log) a = ((λ h. a.0, λ h. refl), unmarked-tells t log a.1)

module _ (meaning : TextMeaning) (header : List ℕ → Header) (pre : Query → AnswerKind) (lib : Library) (old mid new : Entries) (checked : List UnitKey) (compared : ℕ) (is : IsUpdated meaning header pre lib old mid checked compared) (ended : (u : UnitKey) → state new u ≡ kept_state (settled_state (state mid u))) where
  abbrev last_of : State Stored → Option Stored
  last_of s = if s.was_reached then entry_of s.settled else None

  abbrev now_of : State Stored → Option Stored
  now_of s = if s.is_reached then first_of (entry_of s.made) (entry_of s.settled) else None

  -- what a build reached, seen as the last build
  last-now : (s : State Stored) → (s.leaves ≡ true → s.is_reached ≡ false) → last_of (kept_state (settled_state s)) ≡ now_of s
  last-now s unreached = by s.leaves refl
    where
      by : (b : Bool) → s.leaves ≡ b → last_of (kept_state (settled_state s)) ≡ now_of s
      by true e = ap (λ (b : Bool). last_of (kept_state (settled_state (with_leaves s b)))) e ∙ sym (ap (λ (b : Bool). if b then first_of (entry_of s.made) (entry_of s.settled) else None) (unreached e))
      by false e =
          ap (λ (b : Bool). last_of (kept_state (settled_state (with_leaves s b)))) e
          ∙ ap (λ (o : Option Stored). if s.is_reached then o else None) (entry-held (or_settled s.made s.settled) ∙ first-settled s.made s.settled)

  pub reached-now : (u : UnitKey) → before_at new u ≡ now_at mid u
  reached-now u = ap last_of (ended u) ∙ last-now (state mid u) (is.leaving.unreached u)

  tables : (q : Query) → last_table pre new q ≡ now_table pre mid q
  tables q = ap (λ (o : Option Stored). if has_unit predefined_units (unit_of q) then pre q else entry (option_map outcome_of o) q) (reached-now (unit_of q))

  -- an entry that was made has the answers of now
  made-agrees : (u : UnitKey) (g : Held Stored) → (state mid u).made ≡ Some g → Agrees (now_table pre mid) (log_of g.entry)
  made-agrees u g e =
      let reached : (state mid u).is_reached ≡ true = is.are_made.reached u (ap is_some e) in
      let now : now_at mid u ≡ Some g.entry = ap (λ (b : Bool). if b then first_of (entry_of (state mid u).made) (entry_of (state mid u).settled) else None) reached ∙ ap (λ (o : Option (Held Stored)). first_of (entry_of o) (entry_of (state mid u).settled)) e in
      by (is_reached (setting_of header pre lib) (results_of (now_at mid)) u) refl now
    where
      by : (b : Bool) → is_reached (setting_of header pre lib) (results_of (now_at mid)) u ≡ b → now_at mid u ≡ Some g.entry → Agrees (now_table pre mid) (log_of g.entry)
      by true r now = (subst (λ (o : Option Stored). HasCurrent o (text_of lib u) (now_table pre mid)) now (is.rechecked.current u r)).1
      by false r now =
          let none : now_at mid u ≡ None = is.rechecked.unreached u r in
          absurd (cc)

  marked : (u : UnitKey) (h : Held Stored) → (state new u).settled ≡ Some h → MarksTell (last_table pre new) (log_of h.entry) h.marks.last
  marked u h e = by (state mid u).leaves refl (sym (ap (λ (s : State Stored). s.settled) (ended u)) ∙ e)
    where
      taken : (m o : Option (Held Stored)) → (state mid u).made ≡ m → (state mid u).settled ≡ o → option_map kept (or_settled m o) ≡ Some h → MarksTell (now_table pre mid) (log_of h.entry) h.marks.last
      taken (Some g) o em eo k =
          let one : kept (settled g) ≡ h = cc in
          let is_fresh = is.are_made.fresh_made u g em in
          let tells : MarksTell (now_table pre mid) (log_of g.entry) g.marks.last = subst (λ (x : Held Stored). MarksTell (now_table pre mid) (log_of g.entry) x.marks.last) (sym is_fresh) (unmarked-tells (now_table pre mid) (log_of g.entry) (made-agrees u g em)) in
          subst (λ (x : Held Stored). MarksTell (now_table pre mid) (log_of x.entry) x.marks.last) one tells
      taken None (Some g) em eo k =
          let one : kept g ≡ h = cc in
          subst (λ (x : Held Stored). MarksTell (now_table pre mid) (log_of x.entry) x.marks.last) one (is.marks u g eo)
      taken None None em eo k = absurd (cc)

      by : (b : Bool) → (state mid u).leaves ≡ b → (kept_state (settled_state (state mid u))).settled ≡ Some h → MarksTell (last_table pre new) (log_of h.entry) h.marks.last
      by true l k =
          let none : None ≡ Some h = sym (ap (λ (b : Bool). (kept_state (settled_state (with_leaves (state mid u) b))).settled) l) ∙ k in
          absurd (cc)
      by false l k = tells-alike (now_table pre mid) (last_table pre new) (log_of h.entry) h.marks.last tables (taken (state mid u).made (state mid u).settled refl refl (sym (ap (λ (b : Bool). (kept_state (settled_state (with_leaves (state mid u) b))).settled) l) ∙ k))

  pub ready-now : AreReady pre new
  ready-now = record {
    quiet = λ u. subst (λ (s : State Stored). s ≡ left_by_last s) (sym (ended u)) (quiet-end (state mid u));
    marks = marked;
  }

pub updates_are_ready : UpdatesAreReady
updates_are_ready meaning header pre lib old mid new checked compared is ended = (ready-now meaning header pre lib old mid new checked compared is ended, reached-now meaning header pre lib old mid new checked compared is ended)
