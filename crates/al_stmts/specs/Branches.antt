-- If statements (ARM 5.3), branch by branch.
use Rattle.std.specs.Prelude.{ℕ, List, [], ◌∷◌, ◌++◌, map, Option, None, Result, Ok, Err}
use Rattle.al_base_fault.specs.Faults.{earlier}
use Rattle.al_base_fault.specs.Judging.{fault_in, unless}
use Rattle.al_base_fault.specs.declared.fault.Fault.{Fault}
use Rattle.al_stmts.specs.FaultLists.{followed, no_fault}
use Rattle.al_stmts.specs.declared.fault_list.FaultList.{FaultList}
use Rattle.al_view_typed.specs.ExpressionTrees.{TypedTree}
use Rattle.al_view_typed.specs.StatementTrees.{BranchTree, StatementTree}
use Rattle.al_view_typed.specs.StatementTrees.{BranchTree as branch_trees, StatementFormTree as statements, StatementTree as numbered}
use Rattle.al_view_typed.specs.StatementViews.{branch_model, branches_of, statement_model, statements_of}
use Rattle.al_stmts.specs.Checking.{Checked, compound}
use Rattle.al_stmts.specs.declared.branches.CheckedBranches.{CheckedBranches}

-- the branches so far: what is wrong inside them, the first fault of a condition, and what is done if no condition holds
pub record Branched : Type 0 where
  pub faults : FaultList
  pub own : Option Fault
  pub branches : List BranchTree
  pub otherwise : List StatementTree

abbrev pub branches_checked : CheckedBranches → Branched
branches_checked b =
    record { faults = b.faults; own = b.own; branches = map branch_model b.branches.items; otherwise = map statement_model b.otherwise.items }

abbrev pub no_branch : Branched
no_branch = record { faults = no_fault; own = None; branches = []; otherwise = [] }

abbrev pub branch_of : ℕ → Result TypedTree Fault → List StatementTree → List BranchTree
branch_of line (Ok condition) ss = branch_trees.Branch line condition (statements_of ss) ∷ []
branch_of line (Err f) ss = []

-- one more branch, with the line of `if` or `elsif`
abbrev pub with_branch : Branched → ℕ → Result TypedTree Fault → Checked → Branched
with_branch b line condition inner = record {
  faults = followed b.faults inner.faults;
  own = earlier b.own (fault_in condition);
  branches = b.branches ++ branch_of line condition inner.statements;
  otherwise = b.otherwise;
}

-- the statements after `else`
abbrev pub with_otherwise : Branched → Checked → Branched
with_otherwise b inner = record { faults = followed b.faults inner.faults; own = b.own; branches = b.branches; otherwise = inner.statements }

-- the whole statement
abbrev pub branched : ℕ → Branched → Checked
branched line b =
    compound (unless b.own (Ok (numbered.Numbered line (statements.IfStatement (branches_of b.branches) (statements_of b.otherwise))))) b.faults
