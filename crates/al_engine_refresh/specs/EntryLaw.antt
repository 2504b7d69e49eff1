-- The law that every entry keeps, and when an entry may be used again.
use Rattle.std.specs.Prelude.{◌≡◌, ℕ, List, ◌∷◌, Option, Some, None}
use Rattle.al_base.specs.declared.unit_key.UnitKey.{UnitKey}
use Rattle.al_query.specs.Known.{Grounded, known_after}
use Rattle.al_query.specs.Reads.{Agrees}
use Rattle.al_query.specs.declared.answer.AnswerKind.{AnswerKind}
use Rattle.al_query.specs.declared.query.Query.{Query}
use Rattle.al_unit_graph.specs.Headers.{Header}
use Rattle.al_query_outcome.specs.Defines.{DefinesOwn, DefinesParts, ShowsOnly}
use Rattle.al_query_outcome.specs.ReadsLaw.{AsksByNames, AsksOthers, FaultsFit, HasCode, NamesOnly, UsesOnly, named_by}
use Rattle.al_query_outcome.specs.Results.{Outcome}
use Rattle.al_query_outcome.specs.Words.{words_of}
use Rattle.al_engine_refresh.specs.Stored.{Stored, outcome_of}

-- the outcome of a unit with a source under a table of answers
abbrev pub TextMeaning : Type 0
TextMeaning = UnitKey → List ℕ → (Query → AnswerKind) → Outcome

-- an entry of a unit keeps the reads law
pub record KeepsLaw (meaning : TextMeaning) (header : List ℕ → Header) (u : UnitKey) (e : Stored) : Type 0 where
  -- under every table that agrees with the log the outcome is the unit's
  pub reads : (t : Query → AnswerKind) → Agrees t e.log → outcome_of e ≡ meaning u e.text t
  -- each question is of another unit, which the source or an earlier answer names
  pub others : AsksOthers u e.log
  pub grounded : Grounded (named_by (header e.text)) e.log
  -- and is for a property, or for a word of the source, or for a name that is in an earlier answer
  pub words : AsksByNames u (words_of e.text) e.log
  -- the outcome names only these units and its own
  pub names : NamesOnly (u ∷ known_after (named_by (header e.text)) e.log) (outcome_of e)
  -- what the linker needs, and the places of errors
  pub uses : UsesOnly u e.log (outcome_of e)
  pub defines : DefinesOwn u (outcome_of e)
  pub shows : ShowsOnly u e.log (outcome_of e)
  pub parts : (t : Query → AnswerKind) → Agrees t e.log → DefinesParts u (header e.text) t (outcome_of e)
  pub code : HasCode u (outcome_of e)
  pub faults : FaultsFit u (outcome_of e)

-- each entry keeps the reads law
abbrev pub AllKeepLaw : TextMeaning → (List ℕ → Header) → (UnitKey → Option Stored) → Type 0
AllKeepLaw meaning header at = (u : UnitKey) (e : Stored) → at u ≡ Some e → KeepsLaw meaning header u e

-- an entry is for the source, and a table gives each recorded question its recorded answer
abbrev pub IsCurrent : Stored → List ℕ → (Query → AnswerKind) → Type 0
IsCurrent e text t = (e.text ≡ text) × Agrees t e.log

-- there is such an entry
abbrev pub HasCurrent : Option Stored → List ℕ → (Query → AnswerKind) → Type 0
HasCurrent None text t = ⊥
HasCurrent (Some e) text t = IsCurrent e text t
