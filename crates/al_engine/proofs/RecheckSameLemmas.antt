-- The entries of units if each is as before; and if there are none.
use Rattle.std.proofs.Common.{◌≡◌, ◌∙◌, [], Option, None, refl, sym, ap, if◌then◌else◌}
use Rattle.std.specs.Option.{option_map}
use Rattle.al_base.specs.declared.unit_key.UnitKey.{UnitKey}
use Rattle.al_query.specs.Known.{has_unit, predefined_units}
use Rattle.al_query.specs.Queries.{unit_of}
use Rattle.al_query.specs.declared.answer.AnswerKind.{AnswerKind}
use Rattle.al_query.specs.declared.query.Query.{Query}
use Rattle.al_query_outcome.specs.Equations.{entry}
use Rattle.al_query_store.specs.Keyed.{SameStates, State, before_at, entry_of, settled_at, state}
use Rattle.al_query_store.proofs.TellLemmas.{tells-alike}
use Rattle.al_engine_refresh.specs.Stored.{Stored, log_of, outcome_of}
use Rattle.al_engine_refresh.specs.Moves.{Entries, IsLeft, left_by_last}
use Rattle.al_engine_refresh.specs.Moving.{last_table}
use Rattle.al_engine.specs.Rechecks.{AreReady}

module _ (old new : Entries) (same : SameStates old new) where
  pub settled-same : (u : UnitKey) → settled_at new u ≡ settled_at old u
  settled-same u = ap (λ (s : State Stored). entry_of s.settled) (same u)

  pub before-same : (u : UnitKey) → before_at new u ≡ before_at old u
  before-same u = ap (λ (s : State Stored). if s.was_reached then entry_of s.settled else None) (same u)

  tables : (pre : Query → AnswerKind) (q : Query) → last_table pre new q ≡ last_table pre old q
  tables pre q = ap (λ (o : Option Stored). if has_unit predefined_units (unit_of q) then pre q else entry (option_map outcome_of o) q) (before-same (unit_of q))

  pub ready-same : (pre : Query → AnswerKind) → AreReady pre old → AreReady pre new
  ready-same pre ready = record {
    quiet = λ u. same u ∙ ready.quiet u ∙ sym (ap left_by_last (same u));
    marks = λ u h is.
        tells-alike (last_table pre old) (last_table pre new) (log_of h.entry) h.marks.last (tables pre)
        (ready.marks u h (sym (ap (λ (s : State Stored). s.settled) (same u)) ∙ is));
  }

-- a build that is cancelled leaves all entries as before
pub as-before : (pre : Query → AnswerKind) (old mid new : Entries) → AreReady pre old → IsLeft old mid → ((u : UnitKey) → state new u ≡ left_by_last (state mid u)) → SameStates old new
as-before pre old mid new ready left ends u = ends u ∙ left u ∙ sym (ready.quiet u)

-- there are no entries
pub ready-none : (pre : Query → AnswerKind) → AreReady pre []
ready-none pre = record {
  quiet = λ u. refl;
  marks = λ u h is. absurd (cc);
}
