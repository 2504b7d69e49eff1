-- A build in progress: what is known of the units that are done, whatever the outcomes of the others will be.
use Rattle.std.specs.Prelude.{◌≡◌, ◌⊎◌, ℕ, Bool, true, false, List, Option, Some, None}
use Rattle.al_base.specs.declared.unit_key.UnitKey.{UnitKey}
use Rattle.al_query.specs.Known.{has_unit}
use Rattle.al_query.specs.declared.answer.AnswerKind.{AnswerKind}
use Rattle.al_query.specs.declared.query.Query.{Query}
use Rattle.al_unit_graph.specs.Headers.{Header, Library}
use Rattle.al_query_outcome.specs.Equations.{IsSetting, is_reached, table}
use Rattle.al_query_outcome.specs.Results.{Outcome}
use Rattle.al_engine_refresh.specs.EntryLaw.{AllKeepLaw, IsCurrent, TextMeaning}
use Rattle.al_engine_refresh.specs.Stored.{Stored}
use Rattle.al_engine_refresh.specs.Builds.{NeedsCheck, Picked, StandsAfter, results_of, setting, text_of}

module _ (meaning : TextMeaning) (header : List ℕ → Header) (lib : Library) (fl : UnitKey → Bool) (pre : Query → AnswerKind) (is : IsSetting (setting header lib fl pre)) where
  -- a unit's entry under a map: none if it isn't reached, and one that may be used if it is
  abbrev pub Valid : (UnitKey → Option Stored) → (UnitKey → Option Outcome) → UnitKey → Type 0
  Valid at f u =
      ((is_reached (setting header lib fl pre) f u ≡ false) × (at u ≡ None))
      ⊎ ((e : Stored) × (is_reached (setting header lib fl pre) f u ≡ true) × (at u ≡ Some e) × IsCurrent e (text_of lib u) (table (setting header lib fl pre) f))

  module _ (old : UnitKey → Option Stored) where
    -- a map that has the outcomes of the units that are done, and none of those that break a rule
    abbrev pub Fits : (UnitKey → Option Stored) → List UnitKey → (UnitKey → Option Outcome) → Type 0
    Fits at done g = (d : UnitKey) → (has_unit done d ≡ true) ⊎ (fl d ≡ false) → g d ≡ results_of at d

    -- these entries are made of the units that are done, and these units were checked; the rest of the order is still to do
    pub record Progress (at : UnitKey → Option Stored) (done rest checked : List UnitKey) : Type 0 where
      -- every entry keeps the law
      pub law : AllKeepLaw meaning header at
      -- the rest comes after the units that are done, each of which breaks no rule of the graph; no other unit has an entry
      pub ordered : StandsAfter (setting header lib fl pre) is.rank done rest
      pub there : (u : UnitKey) → has_unit done u ≡ true → fl u ≡ true
      pub undone : (u : UnitKey) → has_unit done u ≡ false → at u ≡ None
      -- under every such map the entry of a unit that is done is as it should be, and the units that were checked are those that had none before
      pub valid : (g : UnitKey → Option Outcome) → Fits at done g → (u : UnitKey) → has_unit done u ≡ true → Valid at g u
      pub picked : (g : UnitKey → Option Outcome) → Fits at done g → Picked (NeedsCheck (setting header lib fl pre) old (text_of lib) g) done checked
