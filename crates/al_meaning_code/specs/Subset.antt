-- The trees that the laws speak of, over some variables: scalar expressions without calls, assignments to scalar variables and to scalar components of
-- records and arrays, if statements,
-- loops without a parameter, exits, returns from procedures, some calls, blocks with objects of one word. And how many words of the stack they need.
use Rattle.std.specs.Prelude.{◌≡◌, ℕ, ◌+◌, ◌≤◌, ⊤, max, List, [], ◌∷◌, Option, Some, None, ◌*◌, ℤ, ◌-ℤ◌, unsigned_abs, int_le, true}
use Rattle.al_view.specs.declared.types.StaticValue.{StaticValue}
use Rattle.al_view.specs.declared.view.ObjectPlace.{ObjectPlace}
use Rattle.al_view_typed.specs.declared.label.BinaryOperator.{BinaryOperator}
use Rattle.al_view_typed.specs.declared.label.BinaryOperator.TheVariants as source
use Rattle.al_view_typed.specs.ExpressionTrees.{TypedTree, FormTree, NameTree, ValueTree, CallTree}
use Rattle.al_view_typed.specs.ExpressionTrees.TypedTree.{Labelled}
use Rattle.al_view_typed.specs.ExpressionTrees.FormTree.{LiteralForm, NamedForm, UnaryForm, BinaryForm, ShortCircuitForm, ConvertedForm}
use Rattle.al_view_typed.specs.ExpressionTrees.NameTree.{ObjectName, ComponentName, IndexedName}
use Rattle.al_view_typed.specs.ExpressionTrees.ValueTree.{Checked}
use Rattle.al_view_typed.specs.DeclarationTrees.{DeclarationTree, DeclarationFormTree, Objects}
use Rattle.al_meaning.specs.States.{further}
use Rattle.al_view_typed.specs.StatementTrees.{SchemeTree, StatementTree, StatementsTree, StatementFormTree, BranchTree, BranchesTree}
use Rattle.al_view_typed.specs.StatementTrees.SchemeTree.{ForeverScheme, WhileScheme, ForScheme}
use Rattle.al_view_typed.specs.StatementTrees.StatementTree.{Numbered}
use Rattle.al_view_typed.specs.StatementTrees.StatementsTree.{NoStatement, MoreStatements}
use Rattle.al_view_typed.specs.StatementTrees.StatementFormTree.{NullStatement, AssignmentStatement, CallStatement, ReturnStatement, ExitStatement, IfStatement, LoopStatement, BlockStatement}
use Rattle.al_view_typed.specs.StatementTrees.BranchTree.{Branch}
use Rattle.al_view_typed.specs.StatementTrees.BranchesTree.{NoBranch, MoreBranches}

-- ---- words of the stack

abbrev pub needs_of : Option StaticValue → ℕ → ℕ
needs_of (Some v) n = 1
needs_of None n = n

abbrev mutual
  pub needs : TypedTree → ℕ
  needs (Labelled labels form) = needs_of labels.value (needs_form form)

  pub needs_form : FormTree → ℕ
  needs_form (NamedForm name) = needs_name name
  needs_form (UnaryForm operator x) = needs x
  needs_form (BinaryForm operator x y) = max (needs x) (1 + needs y)
  needs_form (ShortCircuitForm operator x y) = max 1 (max (needs x) (needs y))
  needs_form (ConvertedForm conversion x) = needs_value x
  needs_form _ = 1

  pub needs_name : NameTree → ℕ
  needs_name (ObjectName place is_constant) = 1
  needs_name (ComponentName whole offset) = needs_name whole
  needs_name (IndexedName array index bounds words) = max (needs_name array) (1 + needs index)

  pub needs_value : ValueTree → ℕ
  needs_value (Checked x bounds) = max (needs x) 2

-- ---- expressions

-- operators on scalars
abbrev pub IsScalar : BinaryOperator → Type 0
IsScalar source.SameWords = ⊥
IsScalar source.OtherWords = ⊥
IsScalar _ = ⊤

-- the words at which an object or component can begin that a name means, whatever its indexes are
abbrev pub IsPlaceOf : NameTree → ObjectPlace → Type 0
IsPlaceOf (ObjectName place is_constant) p = p ≡ place
IsPlaceOf (ComponentName whole offset) p = (q : ObjectPlace) × IsPlaceOf whole q × (p ≡ further q offset)
IsPlaceOf (IndexedName array index b words) p = (q : ObjectPlace) × (i : ℤ) × IsPlaceOf array q × (int_le b.low i ≡ true) × (int_le i b.high ≡ true) × (p ≡ further q (unsigned_abs (i -ℤ b.low) * words))

abbrev pub OrStatic : Option StaticValue → Type 0 → Type 0
OrStatic (Some v) P = ⊤
OrStatic None P = P

abbrev mutual
  pub IsIn : (ObjectPlace → Type 0) → TypedTree → Type 0
  IsIn V (Labelled labels form) = OrStatic labels.value (IsInForm V labels.words form)

  pub IsInForm : (ObjectPlace → Type 0) → ℕ → FormTree → Type 0
  IsInForm V w (LiteralForm v) = ⊤
  IsInForm V w (NamedForm name) = IsName V name × (w ≡ 1)
  IsInForm V w (UnaryForm operator x) = IsIn V x
  IsInForm V w (BinaryForm operator x y) = IsScalar operator × IsIn V x × IsIn V y
  IsInForm V w (ShortCircuitForm operator x y) = IsIn V x × IsIn V y
  IsInForm V w (ConvertedForm conversion x) = IsInValue V x
  IsInForm V w _ = ⊥

  -- each word that the name can mean is a variable's
  pub IsName : (ObjectPlace → Type 0) → NameTree → Type 0
  IsName V (ObjectName place is_constant) = V place
  IsName V (ComponentName whole offset) = IsName V whole × ((p : ObjectPlace) → IsPlaceOf whole p → V (further p offset))
  IsName V (IndexedName array index b words) =
      IsName V array × IsIn V index × ((p : ObjectPlace) (i : ℤ) → IsPlaceOf array p → int_le b.low i ≡ true → int_le i b.high ≡ true → V (further p (unsigned_abs (i -ℤ b.low) * words)))

  pub IsInValue : (ObjectPlace → Type 0) → ValueTree → Type 0
  IsInValue V (Checked x bounds) = IsIn V x

-- ---- statements: which calls there are, and that each value needs no more than `room`

module _ (V : ObjectPlace → Type 0) (C : CallTree → Type 0) (room : ℕ) where
  abbrev pub IsInExit : Option TypedTree → Type 0
  IsInExit None = ⊤
  IsInExit (Some condition) = IsIn V condition × (needs condition ≤ room)

  abbrev pub IsInScheme : SchemeTree → Type 0
  IsInScheme ForeverScheme = ⊤
  IsInScheme (WhileScheme condition) = IsIn V condition × (needs condition ≤ room)
  IsInScheme (ForScheme is_reverse low high mark parameter last) = ⊥

  -- objects of one word, with a value or without
  abbrev pub AreVariables : List ObjectPlace → Type 0
  AreVariables [] = ⊤
  AreVariables (p ∷ ps) = V p × AreVariables ps

  abbrev pub IsInitial : Option ValueTree → Type 0
  IsInitial None = 1 ≤ room
  IsInitial (Some x) = IsInValue V x × (needs_value x ≤ room)

  abbrev pub IsInDeclaration : DeclarationFormTree → Type 0
  IsInDeclaration (Objects objects words value) = AreVariables objects × (words ≡ 1) × IsInitial value
  IsInDeclaration _ = ⊥

  abbrev pub AreDeclared : List DeclarationTree → Type 0
  AreDeclared [] = ⊤
  AreDeclared (d ∷ ds) = IsInDeclaration d.form × AreDeclared ds

  abbrev mutual
    pub IsInStatement : StatementTree → Type 0
    IsInStatement (Numbered line form) = IsInStatementForm form

    pub AreIn : StatementsTree → Type 0
    AreIn NoStatement = ⊤
    AreIn (MoreStatements s ss) = IsInStatement s × AreIn ss

    pub IsInStatementForm : StatementFormTree → Type 0
    IsInStatementForm NullStatement = ⊤
    IsInStatementForm (AssignmentStatement target words x) = IsName V target × (words ≡ 1) × IsInValue V x × (needs_value x ≤ room) × (1 + needs_name target ≤ room)
    IsInStatementForm (IfStatement branches otherwise) = BranchesIn branches × AreIn otherwise
    IsInStatementForm (LoopStatement scheme statements) = IsInScheme scheme × AreIn statements
    IsInStatementForm (ExitStatement loops condition) = IsInExit condition
    IsInStatementForm (ReturnStatement None words) = ⊤
    IsInStatementForm (CallStatement call) = C call
    IsInStatementForm (BlockStatement declarations statements) = AreDeclared declarations × AreIn statements
    IsInStatementForm _ = ⊥

    pub BranchesIn : BranchesTree → Type 0
    BranchesIn NoBranch = ⊤
    BranchesIn (MoreBranches b bs) = IsInBranch b × BranchesIn bs

    pub IsInBranch : BranchTree → Type 0
    IsInBranch (Branch line condition statements) = IsIn V condition × (needs condition ≤ room) × AreIn statements
