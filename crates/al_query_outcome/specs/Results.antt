-- What the check of a unit gives, and what it answers to others then.
use Rattle.std.specs.Prelude.{List, Option, Some, None}
use Rattle.al_base.specs.declared.diagnostic.Diagnostic.{Diagnostic}
use Rattle.al_base.specs.declared.unit_key.UnitKey.{UnitKey}
use Rattle.al_query.specs.Queries.{unit_of}
use Rattle.al_query.specs.declared.answer.AnswerKind.{AnswerKind}
use Rattle.al_query.specs.declared.query.Query.{Query}
use Rattle.al_view_typed.specs.UnitTrees.{UnitTree, unit_model}
use Rattle.al_query_outcome.specs.Tables.{answer_of, no_answer}
use Rattle.al_query_outcome.specs.declared.checked.Checked.{Checked}
use Rattle.al_query_outcome.specs.declared.checked.Checked.TheVariants as checked
use Rattle.al_query_outcome.specs.declared.interface.UnitInterface.{UnitInterface}

-- what is wrong with a unit; or else what it answers to others, and its labelled tree
pub data Outcome : Type 0 where
  Faulty : List Diagnostic → Outcome
  Sound : UnitInterface → UnitTree → Outcome

abbrev pub checked_model : Checked → Outcome
checked_model (checked.Faulty faults) = Faulty faults
checked_model (checked.Sound interface tree) = Sound interface (unit_model tree)

-- what a unit with this outcome answers
abbrev pub table_entry : Outcome → Query → AnswerKind
table_entry (Faulty faults) q = no_answer q
table_entry (Sound interface tree) q = answer_of interface q

-- the table of units with outcomes: each question is answered by its unit
abbrev pub table_of : (UnitKey → Option Outcome) → Query → AnswerKind
table_of outcomes q = entry (outcomes (unit_of q))
  where
    entry : Option Outcome → AnswerKind
    entry None = no_answer q
    entry (Some outcome) = table_entry outcome q
