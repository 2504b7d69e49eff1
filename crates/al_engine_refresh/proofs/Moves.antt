-- Two maps from units to outcomes that are the same of all lower units agree alike with the log of a unit's entry.
use Rattle.std.proofs.Common.{◌≡◌, ◌⊎◌, inl, inr, ℕ, ◌<◌, Bool, true, false, ◌&&◌, List, Option, Some, None, refl, sym, ◌∙◌, ap, subst, if◌then◌else◌}
use Rattle.std.specs.Option.{option_map}
use Rattle.al_base.specs.Batch.{Key, key_of}
use Rattle.al_base.specs.declared.unit_key.UnitKey.{UnitKey}
use Rattle.al_query.specs.Known.{Grounded, has_unit, predefined_units}
use Rattle.al_query.specs.Queries.{unit_of}
use Rattle.al_query.specs.Reads.{Agrees}
use Rattle.al_query.specs.declared.answer.AnswerKind.{AnswerKind}
use Rattle.al_query.specs.declared.query.Query.{Query}
use Rattle.al_unit_graph.specs.Dependence.{direct}
use Rattle.al_unit_graph.specs.Headers.{Header, Library}
use Rattle.al_query_outcome.specs.Equations.{IsSetting, Meaning, Setting, KeepsReads, entry, is_reached, is_sound, outcome, table, unit_named}
use Rattle.al_query_outcome.specs.ReadsLaw.{is_of_another, named_by}
use Rattle.al_query_outcome.specs.Results.{Outcome}
use Rattle.al_query_outcome.proofs.Members.{all-same}
use Rattle.al_query_outcome.proofs.Names.{tested}
use Rattle.al_query_outcome.proofs.Near.{Fine, itself, depended, missing, Near, log-moves}
use Rattle.al_query_outcome.proofs.Only.{closed-below, knows, learns, near-depended, others-not, outcome-none}
use Rattle.al_engine_refresh.specs.EntryLaw.{AllKeepLaw, KeepsLaw, TextMeaning}
use Rattle.al_engine_refresh.specs.Stored.{Stored, outcome_of}
use Rattle.al_engine_refresh.specs.Builds.{results_of, setting, text_of}
pub use Rattle.al_engine_refresh.specs.Progress.{Valid}
use Rattle.al_engine_refresh.proofs.Kept.{current-kept, kept, kept-keeps}

module _ (meaning : TextMeaning) (header : List ℕ → Header) (lib : Library) (fl : UnitKey → Bool) (pre : Query → AnswerKind) (is : IsSetting (setting header lib fl pre)) where
  abbrev pub S : Setting
  S = setting header lib fl pre

  -- below a rank, or without an outcome
  abbrev pub Lower : ℕ → UnitKey → Type 0
  Lower n d = fl d ≡ true → is.rank d < n

  abbrev pub SameBelow : ℕ → (UnitKey → Option Outcome) → (UnitKey → Option Outcome) → Type 0
  SameBelow n f g = (d : UnitKey) → Lower n d → f d ≡ g d

  abbrev IsValid : (UnitKey → Option Stored) → (UnitKey → Option Outcome) → UnitKey → Type 0
  IsValid = Valid meaning header lib fl pre is

  -- a map that gives the outcomes of entries that are valid under it, below a rank
  pub record ValidBelow (at : UnitKey → Option Stored) (n : ℕ) (f : UnitKey → Option Outcome) : Type 0 where
    pub valid : (d : UnitKey) → fl d ≡ true → is.rank d < n → IsValid at f d × (f d ≡ results_of at d)
    pub none : (d : UnitKey) → fl d ≡ false → f d ≡ None

  -- if all that a unit depends on is the same, it is reached alike
  pub reached-alike : (u : UnitKey) (f g : UnitKey → Option Outcome) → SameBelow (is.rank u) f g → is_reached S f u ≡ is_reached S g u
  reached-alike u f g same =
      elim (tested (fl u)) as (λ _. is_reached S f u ≡ is_reached S g u) [
        | inl t ↦
            ap (λ b. fl u && b) (all-same (λ (k : Key). is_sound (f (unit_named k))) (λ (k : Key). is_sound (g (unit_named k))) (direct lib (key_of u)) (λ k c. ap is_sound (same (unit_named k) (λ e. is.ordered u (unit_named k) t e c))))
        | inr t ↦ rw t refl
      ]

  module _ (at : UnitKey → Option Stored) (law : AllKeepLaw meaning header at) where
    abbrev M : Meaning
    M = kept at (text_of lib)

    keeps : KeepsReads M S.header_of
    keeps = kept-keeps meaning header at (text_of lib) law

    valid-outcome : (f : UnitKey → Option Outcome) (u : UnitKey) → IsValid at f u → results_of at u ≡ outcome M S f u
    valid-outcome f u (inl v) = ap (option_map outcome_of) v.1 ∙ sym (rw v.0 refl)
    valid-outcome f u (inr v) =
        let one : outcome M S f u ≡ Some (M u (table S f)) = rw v.1 refl in
        ap (option_map outcome_of) v.2 ∙ ap (λ (o : Outcome). Some o) (sym (current-kept v.0 (at u) (text_of lib u) (table S f) v.2 v.3)) ∙ sym one

    solves-below : (n : ℕ) (f : UnitKey → Option Outcome) → ValidBelow at n f → (d : UnitKey) → Lower n d → f d ≡ outcome M S f d
    solves-below n f b d low =
        elim (tested (fl d)) as (λ _. f d ≡ outcome M S f d) [
          | inl t ↦ let v = b.valid d t (low t) in v.1 ∙ valid-outcome f d v.0
          | inr t ↦ b.none d t ∙ sym (outcome-none M S is keeps f d t)
        ]

    module _ (u : UnitKey) (f g : UnitKey → Option Outcome) (reached : is_reached S f u ≡ true) (below : ValidBelow at (is.rank u) f) (same : SameBelow (is.rank u) f g) where
      solved : (d : UnitKey) → Lower (is.rank u) d → f d ≡ outcome M S f d
      solved = solves-below (is.rank u) f below

      near-same : (q : Query) (b : Bool) → has_unit predefined_units (unit_of q) ≡ b → is_of_another u q ≡ true → Fine S u (unit_of q) → f (unit_of q) ≡ g (unit_of q) ⊎ (b ≡ true)
      near-same q true h o n = inr refl
      near-same q false h o (itself e) = absurd (others-not u (unit_of q) _ h o e)
      near-same q false h o (depended d) = inl (same (unit_of q) (λ t. (near-depended M S is keeps f u (unit_of q) d reached solved).2))
      near-same q false h o (missing m) = inl (same (unit_of q) (λ t. absurd (cc)))

      answers-same : (q : Query) (b : Bool) → f (unit_of q) ≡ g (unit_of q) ⊎ (b ≡ true) → (if b then pre q else entry (f (unit_of q)) q) ≡ (if b then pre q else entry (g (unit_of q)) q)
      answers-same q true e = refl
      answers-same q false (inl e) = ap (λ o. entry o q) e
      answers-same q false (inr e) = absurd (cc)

      alike : (q : Query) → is_of_another u q ≡ true → Near S u (unit_of q) → table S f q ≡ table S g q
      alike q o n = answers-same q (has_unit predefined_units (unit_of q)) (near-same q (has_unit predefined_units (unit_of q)) refl o n.0)

      -- a log of this unit with which the one table agrees, the other does too
      pub entry-moves : (e : Stored) → KeepsLaw meaning header u e → e.text ≡ text_of lib u → Agrees (table S f) e.log → Agrees (table S g) e.log
      entry-moves e k text agrees =
          let closed = closed-below M S is keeps f u reached solved in
          let grounded : Grounded (named_by (header (text_of lib u))) e.log = subst (λ (x : List ℕ). Grounded (named_by (header x)) e.log) text k.grounded in
          (log-moves S u (table S f) (table S g) (λ q o n. alike q o n) (learns M S is keeps f u reached solved closed) (named_by (header (text_of lib u))) e.log (knows M S is keeps f u reached solved closed) grounded k.others agrees).0
