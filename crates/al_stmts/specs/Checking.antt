-- Statements that are checked: what is wrong with them, and the statements with their labels.
use Rattle.std.specs.Prelude.{List, [], ◌∷◌, ◌++◌, map, option_map, Some, Result, Ok, Err}
use Rattle.std.specs.Option.{option_to_list}
use Rattle.al_base_fault.specs.declared.fault.Fault.{Fault}
use Rattle.al_stmts.specs.FaultLists.{followed, no_fault, round}
use Rattle.al_stmts.specs.declared.fault_list.FaultList.{FaultList}
use Rattle.al_view_typed.specs.StatementTrees.{StatementTree}
use Rattle.al_view_typed.specs.StatementViews.{statement_model}
use Rattle.al_stmts.specs.declared.checked.CheckedStatement.{CheckedStatement}
use Rattle.al_stmts.specs.declared.checked.CheckedStatements.{CheckedStatements}

pub record Checked : Type 0 where
  pub faults : FaultList
  pub statements : List StatementTree

abbrev pub one_checked : CheckedStatement → Checked
one_checked s = record { faults = s.faults; statements = option_to_list (option_map statement_model s.statement) }

abbrev pub all_checked : CheckedStatements → Checked
all_checked s = record { faults = s.faults; statements = map statement_model s.statements.items }

-- one thing that was checked, and then what comes after it
abbrev pub checked_after : Checked → Checked → Checked
checked_after a b = record { faults = followed a.faults b.faults; statements = a.statements ++ b.statements }

-- A statement by its own parts, with what is wrong with what is inside it. Of its own parts it has the first fault alone, and
-- is then no statement; what is inside it has its faults all the same.
abbrev pub compound : Result StatementTree Fault → FaultList → Checked
compound (Ok s) inner = record { faults = inner; statements = s ∷ [] }
compound (Err f) inner = record { faults = round (Some f) inner; statements = [] }

-- a statement with nothing inside it
abbrev pub alone : Result StatementTree Fault → Checked
alone judged = compound judged no_fault

-- a statement that ends with the fault of a declaration inside it
abbrev pub broken_off : FaultList → Checked
broken_off faults = record { faults = faults; statements = [] }
