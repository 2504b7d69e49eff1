-- Whether a return statement is among statements: one of theirs, or one inside them, but for those of bodies among their
-- declarations, which are the return statements of these (ARM 6.5(5)).
use Rattle.std.specs.Prelude.{Bool, true, false, ◌||◌}
use Rattle.al_tree_syntax.specs.StatementTrees.{StatementsTree, MoreStatementsTree, StatementTree, BranchTree, ElsifsTree, ElseTree, AlternativeTree, AlternativesTree, LoopTree, BlockTree, HandledTree}
use Rattle.al_tree_syntax.specs.StatementTrees.StatementsTree.{Statements}
use Rattle.al_tree_syntax.specs.StatementTrees.MoreStatementsTree.{NoStatement, MoreStatements}
use Rattle.al_tree_syntax.specs.StatementTrees.StatementTree.{NullStatement, Assignment, CallStatement, ReturnStatement, ExitStatement, DelayStatement, IfStatement, CaseStatement, LoopStatement, BlockStatement}
use Rattle.al_tree_syntax.specs.StatementTrees.BranchTree.{Branch}
use Rattle.al_tree_syntax.specs.StatementTrees.ElsifsTree.{NoElsif, MoreElsifs}
use Rattle.al_tree_syntax.specs.StatementTrees.ElseTree.{NoElse, Else}
use Rattle.al_tree_syntax.specs.StatementTrees.AlternativeTree.{Alternative}
use Rattle.al_tree_syntax.specs.StatementTrees.AlternativesTree.{NoAlternative, MoreAlternatives}
use Rattle.al_tree_syntax.specs.StatementTrees.LoopTree.{PlainLoop, WhileLoop, ForLoop}
use Rattle.al_tree_syntax.specs.StatementTrees.BlockTree.{DeclareBlock, PlainBlock}
use Rattle.al_tree_syntax.specs.StatementTrees.HandledTree.{Handled}

abbrev mutual
  pub has_return : StatementsTree → Bool
  has_return (Statements s more) = is_returning s || more_return more

  pub more_return : MoreStatementsTree → Bool
  more_return NoStatement = false
  more_return (MoreStatements s more) = is_returning s || more_return more

  pub is_returning : StatementTree → Bool
  is_returning NullStatement = false
  is_returning (Assignment target value) = false
  is_returning (CallStatement name) = false
  is_returning (ReturnStatement place value) = true
  is_returning (ExitStatement place name condition) = false
  is_returning (DelayStatement place moment) = false
  is_returning (IfStatement place first others otherwise end closing) = branch_returns first || (elsifs_return others || else_returns otherwise)
  is_returning (CaseStatement place selector first others end closing) = alternative_returns first || alternatives_return others
  is_returning (LoopStatement name inner) = loop_returns inner
  is_returning (BlockStatement name inner) = block_returns inner

  pub branch_returns : BranchTree → Bool
  branch_returns (Branch condition ss) = has_return ss

  pub elsifs_return : ElsifsTree → Bool
  elsifs_return NoElsif = false
  elsifs_return (MoreElsifs place branch others) = branch_returns branch || elsifs_return others

  pub else_returns : ElseTree → Bool
  else_returns NoElse = false
  else_returns (Else ss) = has_return ss

  pub alternative_returns : AlternativeTree → Bool
  alternative_returns (Alternative first others ss) = has_return ss

  pub alternatives_return : AlternativesTree → Bool
  alternatives_return NoAlternative = false
  alternatives_return (MoreAlternatives alternative others) = alternative_returns alternative || alternatives_return others

  pub loop_returns : LoopTree → Bool
  loop_returns (PlainLoop place ss end) = has_return ss
  loop_returns (WhileLoop place condition opening ss end) = has_return ss
  loop_returns (ForLoop place name is_reverse range opening ss end) = has_return ss

  pub block_returns : BlockTree → Bool
  block_returns (DeclareBlock place inner) = handled_returns inner
  block_returns (PlainBlock place ss end) = has_return ss

  pub handled_returns : HandledTree → Bool
  handled_returns (Handled items place ss end) = has_return ss
