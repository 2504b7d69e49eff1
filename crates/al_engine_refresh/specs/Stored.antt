-- The contents of an entry.
use Rattle.std.specs.Prelude.{ℕ, List}
use Rattle.al_query.specs.declared.answer.AnswerKind.{AnswerKind}
use Rattle.al_query.specs.declared.query.Query.{Query}
use Rattle.al_query_outcome.specs.Results.{Outcome, checked_model}
use Rattle.al_query_outcome.specs.declared.checked.Checked.{Checked}

-- a source, the questions that its check asked with their answers, and the result of the check
pub record Stored : Type 0 where
  pub text : List ℕ
  pub log : List (Query × AnswerKind)
  pub checked : Checked

abbrev pub outcome_of : Stored → Outcome
outcome_of e = checked_model e.checked

abbrev pub log_of : Stored → List (Query × AnswerKind)
log_of e = e.log
