-- What a checker makes of units.
use Rattle.std.specs.Prelude.{ℕ, List}
use Rattle.al_base.specs.declared.unit_key.UnitKey.{UnitKey}
use Rattle.al_query.specs.declared.answer.AnswerKind.{AnswerKind}
use Rattle.al_query.specs.declared.query.Query.{Query}
use Rattle.al_query_outcome.specs.Results.{Outcome}

-- the outcome of a unit with a source under a table of answers
abbrev pub TextMeaning : Type 0
TextMeaning = UnitKey → List ℕ → (Query → AnswerKind) → Outcome
