-- The code of statements (ARM 5, 6.5, 9.6).
use Rattle.std.specs.Prelude.{ℕ, Bool, true, false, List, [], ◌∷◌, ◌++◌, Option, Some, None}
use Rattle.std.specs.List.{flat_map}
use Rattle.al_view.specs.declared.types.Bounds.{Bounds}
use Rattle.al_instr.specs.declared.numbers.Plain.TheVariants as plain
use Rattle.al_instr.specs.declared.numbers.Sized.TheVariants as sized
use Rattle.al_view_typed.specs.ExpressionTrees.{NameTree, ValueTree}
use Rattle.al_view_typed.specs.StatementTrees.{StatementTree, StatementsTree, StatementFormTree, BranchTree, BranchesTree, AlternativeTree, AlternativesTree}
use Rattle.al_view_typed.specs.StatementTrees.StatementTree.{Numbered}
use Rattle.al_view_typed.specs.StatementTrees.StatementsTree.{NoStatement, MoreStatements}
use Rattle.al_view_typed.specs.StatementTrees.StatementFormTree.{NullStatement, AssignmentStatement, CallStatement, PutStatement, ReturnStatement, ExitStatement, DelayStatement, IfStatement, CaseStatement, LoopStatement, BlockStatement}
use Rattle.al_view_typed.specs.StatementTrees.BranchTree.{Branch}
use Rattle.al_view_typed.specs.StatementTrees.BranchesTree.{NoBranch, MoreBranches}
use Rattle.al_view_typed.specs.StatementTrees.AlternativeTree.{Alternative}
use Rattle.al_view_typed.specs.StatementTrees.AlternativesTree.{NoAlternative, MoreAlternatives}
use Rattle.al_code.specs.declared.piece.JumpCondition.TheVariants as when
use Rattle.al_code.specs.declared.piece.Target.TheVariants as target
use Rattle.al_code.specs.declared.piece.Construct.TheVariants as construct
use Rattle.al_code.specs.Pieces.{Piece, closed}
use Rattle.al_code.specs.Pieces.Piece.{Leaving}
use Rattle.al_code.specs.ExprPieces.{guarded, join, load_slot, number, of_size, one, store_slot}
use Rattle.al_code.specs.Templates.{address_of, call_code, checked_code, value_of}
use Rattle.al_code.specs.declared.routine.Routine.{Routine}
use Rattle.al_code.specs.Declarations.{declarations_code}
use Rattle.al_code.specs.Images.{emit_code}
use Rattle.al_code.specs.Loops.{leave_code, round_code}
use Rattle.al_code.specs.Marks.{has_code, mark_of}

abbrev pub assignment_code : ℕ → NameTree → ℕ → ValueTree → List Piece
assignment_code depth target words value = checked_code depth value ++ address_of depth target ++ of_size sized.Store words

-- a protected function leaves its object before it returns
abbrev pub unlocked_code : Bool → List Piece
unlocked_code true = one plain.Leave
unlocked_code false = []

-- a return: to the end of the statements, or with the value of a function
abbrev pub return_code : Routine → Option ValueTree → ℕ → List Piece
return_code r None words = Leaving when.Always target.Routine ∷ []
return_code r (Some value) words = checked_code r.depth value ++ unlocked_code r.unlocks ++ of_size sized.Return words

-- whether the kept value is within a choice's bounds
unfoldable pub choice_code : ℕ → Bounds → List Piece
choice_code word b = load_slot word ++ number b.low ++ one plain.AtLeast ++ load_slot word ++ number b.high ++ one plain.AtMost ++ one plain.And

-- whether it is within the bounds of one more choice too
unfoldable pub other_choice_code : ℕ → Bounds → List Piece
other_choice_code word b = choice_code word b ++ one plain.Or

abbrev pub choices_code : ℕ → List Bounds → List Piece
choices_code word [] = []
choices_code word (b ∷ bs) = choice_code word b ++ flat_map (other_choice_code word) bs

-- the statements of `others`, if there is that choice
abbrev pub others_code : StatementsTree → List Piece → List Piece
others_code NoStatement p = []
others_code (MoreStatements s ss) p = p ++ join

abbrev mutual
  pub statement_code : Routine → StatementTree → List Piece
  statement_code r (Numbered line form) = mark_of (has_code form) line ++ statement_form_code r line form

  pub statements_code : Routine → StatementsTree → List Piece
  statements_code r NoStatement = []
  statements_code r (MoreStatements s ss) = statement_code r s ++ statements_code r ss

  pub statement_form_code : Routine → ℕ → StatementFormTree → List Piece
  statement_form_code r line NullStatement = []
  statement_form_code r line (AssignmentStatement target words value) = assignment_code r.depth target words value
  statement_form_code r line (CallStatement call) = call_code r.depth call
  statement_form_code r line (PutStatement pieces ends_line) = emit_code r.depth pieces ends_line
  statement_form_code r line (ReturnStatement value words) = return_code r value words
  statement_form_code r line (ExitStatement loops condition) = leave_code r.depth loops condition
  statement_form_code r line (DelayStatement moment) = value_of r.depth moment ++ one plain.Sleep
  statement_form_code r line (IfStatement branches otherwise) = closed construct.Choice (branches_code r branches ++ statements_code r otherwise)
  statement_form_code r line (CaseStatement selector word alternatives otherwise) =
      value_of r.depth selector ++ store_slot word
      ++ closed construct.Choice (alternatives_code r word alternatives ++ others_code otherwise (statements_code r otherwise) ++ mark_of true line ++ of_size sized.Raise 1)
  statement_form_code r line (LoopStatement scheme statements) = closed construct.Loop (round_code r.depth scheme (statements_code r statements))
  statement_form_code r line (BlockStatement declarations statements) = declarations_code r.depth declarations ++ statements_code r statements

  -- V JumpZ N S Jump E N:
  pub branch_code : Routine → BranchTree → List Piece
  branch_code r (Branch line condition statements) = mark_of true line ++ value_of r.depth condition ++ guarded (statements_code r statements ++ join)

  pub branches_code : Routine → BranchesTree → List Piece
  branches_code r NoBranch = []
  branches_code r (MoreBranches b bs) = branch_code r b ++ branches_code r bs

  pub alternative_code : Routine → ℕ → AlternativeTree → List Piece
  alternative_code r word (Alternative choices statements) = choices_code word choices ++ guarded (statements_code r statements ++ join)

  pub alternatives_code : Routine → ℕ → AlternativesTree → List Piece
  alternatives_code r word NoAlternative = []
  alternatives_code r word (MoreAlternatives a as_) = alternative_code r word a ++ alternatives_code r word as_
