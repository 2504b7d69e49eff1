-- Tables, logs that agree with them, and what holds under every table that agrees.
use Rattle.std.specs.Prelude.{◌≡◌, List, [], ◌∷◌, ◌++◌, ⊤, if◌then◌else◌, Option, is_some}
use Rattle.std.specs.Coded.{×_prop, Unit-prop, Coded-set}
use Rattle.std.specs.Map.{lookup}
use Rattle.al_query.specs.declared.query.Query.{Query}
use Rattle.al_query.specs.declared.answer.AnswerKind.{AnswerKind}
use Rattle.al_query.specs.contracts.answer.AnswerKind as answer
use Rattle.al_query.specs.Queries.{same_query}

-- an answer to each question
abbrev pub Table : Type 0
Table = Query → AnswerKind

-- questions with their answers, in the order of asking
abbrev pub Log : Type 0
Log = List (Query × AnswerKind)

-- the table gives each recorded question its recorded answer
abbrev pub Agrees : (Query → AnswerKind) → List (Query × AnswerKind) → Type 0
Agrees table [] = ⊤
Agrees table (e ∷ es) = (table e.0 ≡ e.1) × Agrees table es

pub Agrees-prop : (table : Query → AnswerKind) (log : List (Query × AnswerKind)) → IsProp (Agrees table log)
Agrees-prop table [] = Unit-prop
Agrees-prop table (e ∷ es) = ×_prop (Coded-set answer.the_row.coded (table e.0) e.1) (Agrees-prop table es)

-- whatever table agrees with the log as it is now: it agreed with the log as it was before, and this holds of it. This states what
-- a call that asks gives: it depends on what was asked, and on nothing else.
abbrev pub FromAnswers : Log → Log → (Table → Type 0) → Type 0
FromAnswers before now claim = (t : Table) → Agrees t now → Agrees t before × claim t

-- this holds of whatever table agrees with the log
abbrev pub HoldsBy : Log → (Table → Type 0) → Type 0
HoldsBy log claim = (t : Table) → Agrees t log → claim t

-- the recorded answer to a question
abbrev pub recorded : List (Query × AnswerKind) → Query → Option AnswerKind
recorded log q = lookup (same_query q) log

-- the log after a question: appended with its answer if the log lacks it
abbrev pub logged : List (Query × AnswerKind) → Query → AnswerKind → List (Query × AnswerKind)
logged log q answer = if is_some (recorded log q) then log else log ++ (q, answer) ∷ []
