-- Statements with their labels, as plain data.
use Rattle.std.specs.Prelude.{ℕ, Bool, List, Option}
use Rattle.al_view.specs.declared.types.Bounds.{Bounds}
use Rattle.al_view_typed.specs.DeclarationTrees.{DeclarationTree}
use Rattle.al_view_typed.specs.ExpressionTrees.{CallTree, NameTree, TypedTree, ValueTree}

-- what is put
pub data PieceTree : Type 0 where
  -- the bytes of a string literal
  TextPiece : List ℕ → PieceTree
  IntegerImage : TypedTree → PieceTree
  -- the value, and the names of the literals by position
  EnumerationImage : TypedTree → List (List ℕ) → PieceTree

-- how often a loop goes round
pub data SchemeTree : Type 0 where
  ForeverScheme : SchemeTree
  WhileScheme : TypedTree → SchemeTree
  -- whether in reverse, the bounds, the range of the mark, the words of the frame for the parameter and for its last value
  ForScheme : Bool → TypedTree → TypedTree → Option Bounds → ℕ → ℕ → SchemeTree

mutual
  -- a statement with the line of its first token
  pub data StatementTree : Type 0 where
    Numbered : ℕ → StatementFormTree → StatementTree

  pub data StatementsTree : Type 0 where
    NoStatement : StatementsTree
    MoreStatements : StatementTree → StatementsTree → StatementsTree

  pub data StatementFormTree : Type 0 where
    NullStatement : StatementFormTree
    -- the target, its words, the value
    AssignmentStatement : NameTree → ℕ → ValueTree → StatementFormTree
    CallStatement : CallTree → StatementFormTree
    -- what is put, and whether the line ends then
    PutStatement : List PieceTree → Bool → StatementFormTree
    -- the value of a function, and its words
    ReturnStatement : Option ValueTree → ℕ → StatementFormTree
    -- how many loops are between it and the one that is left, and the condition
    ExitStatement : ℕ → Option TypedTree → StatementFormTree
    DelayStatement : TypedTree → StatementFormTree
    IfStatement : BranchesTree → StatementsTree → StatementFormTree
    -- the selector, the word that keeps its value, the alternatives, the others
    CaseStatement : TypedTree → ℕ → AlternativesTree → StatementsTree → StatementFormTree
    LoopStatement : SchemeTree → StatementsTree → StatementFormTree
    BlockStatement : List DeclarationTree → StatementsTree → StatementFormTree

  -- the line of its first word, the condition, the statements
  pub data BranchTree : Type 0 where
    Branch : ℕ → TypedTree → StatementsTree → BranchTree

  pub data BranchesTree : Type 0 where
    NoBranch : BranchesTree
    MoreBranches : BranchTree → BranchesTree → BranchesTree

  -- the ranges of values that are chosen, and the statements
  pub data AlternativeTree : Type 0 where
    Alternative : List Bounds → StatementsTree → AlternativeTree

  pub data AlternativesTree : Type 0 where
    NoAlternative : AlternativesTree
    MoreAlternatives : AlternativeTree → AlternativesTree → AlternativesTree
