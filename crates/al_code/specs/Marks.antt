-- Marks at which the code of a line begins.
use Rattle.std.specs.Prelude.{ℕ, Bool, true, false, ◌||◌, List, [], ◌∷◌}
use Rattle.std.specs.List.{list_any}
use Rattle.al_view.specs.declared.view.ObjectPlace.{ObjectPlace}
use Rattle.al_view.specs.declared.view.ObjectPlace.TheVariants as places
use Rattle.al_view_typed.specs.DeclarationTrees.{ComponentValueTree, DeclarationFormTree, Objects, Subprogram, Elaborated, SingleTask, SingleProtected}
use Rattle.al_view_typed.specs.StatementTrees.{StatementTree, StatementsTree, StatementFormTree, BranchesTree}
use Rattle.al_view_typed.specs.StatementTrees.BranchesTree.{NoBranch, MoreBranches}
use Rattle.al_view_typed.specs.StatementTrees.StatementTree.{Numbered}
use Rattle.al_view_typed.specs.StatementTrees.StatementsTree.{NoStatement, MoreStatements}
use Rattle.al_view_typed.specs.StatementTrees.StatementFormTree.{NullStatement, AssignmentStatement, CallStatement, PutStatement, ReturnStatement, ExitStatement, DelayStatement, IfStatement, CaseStatement, LoopStatement, BlockStatement}
use Rattle.al_code.specs.Pieces.{Piece}
use Rattle.al_code.specs.Pieces.Piece.{Line}

-- the code of a line begins here
unfoldable pub mark_of : Bool → ℕ → List Piece
mark_of true line = Line line ∷ []
mark_of false line = []

-- whether a list has a member
abbrev pub is_some_of : {A : Type 0} → List A → Bool
is_some_of [] = false
is_some_of (x ∷ xs) = true

abbrev pub flag_has_code : ObjectPlace → Bool
flag_has_code (places.Frame d word) = true
flag_has_code (places.Static symbol word) = false

-- whether components that are declared together have code for their first value: the value of each of them
abbrev pub component_has_code : ComponentValueTree → Bool
component_has_code c = is_some_of c.places

-- whether a declaration has code
abbrev pub declaration_has_code : DeclarationFormTree → Bool
declaration_has_code (Objects objects words value) = is_some_of objects
declaration_has_code (Subprogram flag) = flag_has_code flag
declaration_has_code (Elaborated flag) = true
declaration_has_code (SingleTask symbol priority) = true
declaration_has_code (SingleProtected symbol values) = list_any component_has_code values

abbrev pub has_branch : BranchesTree → Bool
has_branch NoBranch = false
has_branch (MoreBranches b bs) = true

-- whether a statement has code, or some of these statements
abbrev mutual
  pub has_code : StatementFormTree → Bool
  has_code NullStatement = false
  has_code (PutStatement pieces ends_line) = ends_line || is_some_of pieces
  has_code (IfStatement branches otherwise) = has_branch branches || statements_have_code otherwise
  has_code (BlockStatement declarations statements) = list_any (λ d. declaration_has_code d.form) declarations || statements_have_code statements
  has_code (AssignmentStatement target words value) = true
  has_code (CallStatement call) = true
  has_code (ReturnStatement value words) = true
  has_code (ExitStatement loops condition) = true
  has_code (DelayStatement moment) = true
  has_code (CaseStatement selector word alternatives otherwise) = true
  has_code (LoopStatement scheme statements) = true

  pub statement_has_code : StatementTree → Bool
  statement_has_code (Numbered line form) = has_code form

  pub statements_have_code : StatementsTree → Bool
  statements_have_code NoStatement = false
  statements_have_code (MoreStatements s ss) = statement_has_code s || statements_have_code ss
