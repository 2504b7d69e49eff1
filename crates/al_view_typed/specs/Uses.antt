-- What of other declarations the linker must find for a labelled tree, and what its unit defines: code, data and protected
-- objects, and no types.
use Rattle.std.specs.Prelude.{List, [], ◌∷◌, ◌++◌, map, Option}
use Rattle.std.specs.List.{flat_map}
use Rattle.std.specs.Option.{option_map_or}
use Rattle.al_view.specs.ViewUses.{flag_uses, link, place_uses}
use Rattle.al_view.specs.declared.link.LinkKind.TheVariants.{Code, Gate, EntryBody, Flag, Data}
use Rattle.al_view.specs.declared.link.LinkKind.TheVariants as links
use Rattle.al_view.specs.declared.link.LinkSymbol.{LinkSymbol}
use Rattle.al_view.specs.declared.symbol.Symbol.{Symbol}
use Rattle.al_view_typed.specs.DeclarationTrees.{DeclarationTree, DeclarationFormTree, Objects, Subprogram as SubprogramDeclaration, Elaborated, SingleTask, SingleProtected}
use Rattle.al_view_typed.specs.ExpressionTrees.{TypedTree, FormTree, NameTree, ValueTree, ValuesTree, ActualTree, ActualsTree, CallTree}
use Rattle.al_view_typed.specs.ExpressionTrees.TypedTree.{Labelled}
use Rattle.al_view_typed.specs.ExpressionTrees.FormTree.{LiteralForm, NamedForm, UnaryForm, BinaryForm, ShortCircuitForm, MembershipForm, ConvertedForm, AggregateForm, OthersForm, CallForm, ClockForm}
use Rattle.al_view_typed.specs.ExpressionTrees.NameTree.{ObjectName, ComponentName, IndexedName}
use Rattle.al_view_typed.specs.ExpressionTrees.ValueTree.{Checked}
use Rattle.al_view_typed.specs.ExpressionTrees.ValuesTree.{NoValue, MoreValues}
use Rattle.al_view_typed.specs.ExpressionTrees.ActualTree.{InActual, VariableActual}
use Rattle.al_view_typed.specs.ExpressionTrees.ActualsTree.{NoActual, MoreActuals}
use Rattle.al_view_typed.specs.ExpressionTrees.CallTree.{Called}
use Rattle.al_view_typed.specs.StatementTrees.{PieceTree, SchemeTree, StatementTree, StatementsTree, StatementFormTree, BranchTree, BranchesTree, AlternativeTree, AlternativesTree}
use Rattle.al_view_typed.specs.StatementTrees.PieceTree.{TextPiece, IntegerImage, EnumerationImage}
use Rattle.al_view_typed.specs.StatementTrees.SchemeTree.{ForeverScheme, WhileScheme, ForScheme}
use Rattle.al_view_typed.specs.StatementTrees.StatementTree.{Numbered}
use Rattle.al_view_typed.specs.StatementTrees.StatementsTree.{NoStatement, MoreStatements}
use Rattle.al_view_typed.specs.StatementTrees.StatementFormTree.{NullStatement, AssignmentStatement, CallStatement, PutStatement, ReturnStatement, ExitStatement, DelayStatement, IfStatement, CaseStatement, LoopStatement, BlockStatement}
use Rattle.al_view_typed.specs.StatementTrees.BranchTree.{Branch}
use Rattle.al_view_typed.specs.StatementTrees.BranchesTree.{NoBranch, MoreBranches}
use Rattle.al_view_typed.specs.StatementTrees.AlternativeTree.{Alternative}
use Rattle.al_view_typed.specs.StatementTrees.AlternativesTree.{NoAlternative, MoreAlternatives}
use Rattle.al_view_typed.specs.UnitTrees.{BodyTree, ElaborationTree, UnitTree}
use Rattle.al_view_typed.specs.declared.expression.Callee.{Callee}
use Rattle.al_view_typed.specs.declared.expression.Callee.TheVariants.{Subprogram, Protected, Entry}
use Rattle.al_view_typed.specs.declared.unit.BodyKind.{BodyKind}
use Rattle.al_view_typed.specs.declared.unit.BodyKind.TheVariants as kinds
use Rattle.al_view_typed.specs.declared.unit.EntryOf.{EntryOf}
use Rattle.al_view_typed.specs.declared.unit.ProtectedWords.{ProtectedWords}

-- the symbols in what is there, if anything
abbrev pub some_uses : {X : Type 0} → (X → List LinkSymbol) → Option X → List LinkSymbol
some_uses symbols x = option_map_or symbols x []

-- the code or the gate of what is called
abbrev pub callee_uses : Callee → List LinkSymbol
callee_uses (Subprogram symbol depth) = link Code symbol ∷ []
callee_uses (Protected symbol) = link Code symbol ∷ []
callee_uses (Entry symbol) = link Gate symbol ∷ []

abbrev mutual
  pub typed_uses : TypedTree → List LinkSymbol
  typed_uses (Labelled labels form) = form_uses form

  pub form_uses : FormTree → List LinkSymbol
  form_uses (LiteralForm value) = []
  form_uses (NamedForm name) = name_uses name
  form_uses (UnaryForm operator operand) = typed_uses operand
  form_uses (BinaryForm operator left right) = typed_uses left ++ typed_uses right
  form_uses (ShortCircuitForm operator left right) = typed_uses left ++ typed_uses right
  form_uses (MembershipForm value is_negated low high slot) = typed_uses value ++ typed_uses low ++ typed_uses high
  form_uses (ConvertedForm conversion value) = value_uses value
  form_uses (AggregateForm values) = values_uses values
  form_uses (OthersForm count value) = value_uses value
  form_uses (CallForm call) = called_uses call
  form_uses ClockForm = []

  pub name_uses : NameTree → List LinkSymbol
  name_uses (ObjectName place is_constant) = place_uses Data place
  name_uses (ComponentName whole offset) = name_uses whole
  name_uses (IndexedName array index bounds words) = name_uses array ++ typed_uses index

  pub value_uses : ValueTree → List LinkSymbol
  value_uses (Checked value bounds) = typed_uses value

  pub values_uses : ValuesTree → List LinkSymbol
  values_uses NoValue = []
  values_uses (MoreValues value values) = value_uses value ++ values_uses values

  pub actual_uses : ActualTree → List LinkSymbol
  actual_uses (InActual value) = value_uses value
  actual_uses (VariableActual name words mode formal actual slot) = name_uses name

  pub actuals_uses : ActualsTree → List LinkSymbol
  actuals_uses NoActual = []
  actuals_uses (MoreActuals actual actuals) = actual_uses actual ++ actuals_uses actuals

  pub called_uses : CallTree → List LinkSymbol
  called_uses (Called callee flag words actuals) = callee_uses callee ++ flag_uses flag ++ actuals_uses actuals

abbrev pub declaration_form_uses : DeclarationFormTree → List LinkSymbol
declaration_form_uses (Objects places words value) = flat_map (place_uses Data) places ++ some_uses value_uses value
declaration_form_uses (SubprogramDeclaration flag) = place_uses Flag flag
declaration_form_uses (Elaborated flag) = place_uses Flag flag
declaration_form_uses (SingleTask symbol priority) = link Code symbol ∷ []
declaration_form_uses (SingleProtected symbol values) = link Data symbol ∷ flat_map (λ v. value_uses v.value) values

abbrev pub declarations_uses : List DeclarationTree → List LinkSymbol
declarations_uses declarations = flat_map (λ d. declaration_form_uses d.form) declarations

abbrev pub piece_uses : PieceTree → List LinkSymbol
piece_uses (TextPiece bytes) = []
piece_uses (IntegerImage value) = typed_uses value
piece_uses (EnumerationImage value names) = typed_uses value

abbrev pub scheme_uses : SchemeTree → List LinkSymbol
scheme_uses ForeverScheme = []
scheme_uses (WhileScheme condition) = typed_uses condition
scheme_uses (ForScheme is_reverse low high mark parameter last) = typed_uses low ++ typed_uses high

abbrev mutual
  pub statement_uses : StatementTree → List LinkSymbol
  statement_uses (Numbered line form) = statement_form_uses form

  pub statements_uses : StatementsTree → List LinkSymbol
  statements_uses NoStatement = []
  statements_uses (MoreStatements statement statements) = statement_uses statement ++ statements_uses statements

  pub statement_form_uses : StatementFormTree → List LinkSymbol
  statement_form_uses NullStatement = []
  statement_form_uses (AssignmentStatement target words value) = name_uses target ++ value_uses value
  statement_form_uses (CallStatement call) = called_uses call
  statement_form_uses (PutStatement pieces ends_line) = flat_map piece_uses pieces
  statement_form_uses (ReturnStatement value words) = some_uses value_uses value
  statement_form_uses (ExitStatement loops condition) = some_uses typed_uses condition
  statement_form_uses (DelayStatement moment) = typed_uses moment
  statement_form_uses (IfStatement branches otherwise) = branches_uses branches ++ statements_uses otherwise
  statement_form_uses (CaseStatement selector slot alternatives otherwise) =
      typed_uses selector ++ alternatives_uses alternatives ++ statements_uses otherwise
  statement_form_uses (LoopStatement scheme statements) = scheme_uses scheme ++ statements_uses statements
  statement_form_uses (BlockStatement declarations statements) = declarations_uses declarations ++ statements_uses statements

  pub branch_uses : BranchTree → List LinkSymbol
  branch_uses (Branch line condition statements) = typed_uses condition ++ statements_uses statements

  pub branches_uses : BranchesTree → List LinkSymbol
  branches_uses NoBranch = []
  branches_uses (MoreBranches branch branches) = branch_uses branch ++ branches_uses branches

  pub alternative_uses : AlternativeTree → List LinkSymbol
  alternative_uses (Alternative choices statements) = statements_uses statements

  pub alternatives_uses : AlternativesTree → List LinkSymbol
  alternatives_uses NoAlternative = []
  alternatives_uses (MoreAlternatives alternative alternatives) = alternative_uses alternative ++ alternatives_uses alternatives

abbrev pub elaboration_uses : ElaborationTree → List LinkSymbol
elaboration_uses e = declarations_uses e.declarations ++ flat_map statement_uses e.statements

-- the body of the entry, and the component that is its barrier
abbrev pub entry_uses : EntryOf → List LinkSymbol
entry_uses e = link EntryBody e.entry ∷ place_uses Data e.barrier

-- what a body uses to enter and leave a protected object
abbrev pub kind_uses : Symbol → BodyKind → List LinkSymbol
kind_uses body (kinds.Procedure copied) = []
kind_uses body (kinds.Function words end) = []
kind_uses body kinds.Task = []
kind_uses body (kinds.ProtectedProcedure object entry copied) = link links.Protected object ∷ some_uses entry_uses entry
kind_uses body (kinds.ProtectedFunction object words end) = link links.Protected object ∷ []
kind_uses body (kinds.Entry object barrier) = link links.Protected object ∷ link EntryBody body ∷ place_uses Data barrier

abbrev pub body_uses : BodyTree → List LinkSymbol
body_uses b = kind_uses b.symbol b.kind ++ elaboration_uses b.inside

-- what the linker must find for the tree of a unit
unfoldable pub unit_uses : UnitTree → List LinkSymbol
unit_uses u = some_uses elaboration_uses u.elaboration ++ flat_map body_uses u.bodies

-- what a body defines: an entry's has a gate and the body after it
abbrev pub body_defines : Symbol → BodyKind → List LinkSymbol
body_defines symbol (kinds.Entry object barrier) = link Gate symbol ∷ link EntryBody symbol ∷ []
body_defines symbol _ = link Code symbol ∷ []

abbrev pub protected_defines : ProtectedWords → List LinkSymbol
protected_defines p = link Data p.symbol ∷ link links.Protected p.symbol ∷ []

-- what the linker finds in the tree of a unit: the code of its bodies, its objects, flags and protected objects
unfoldable pub unit_defines : UnitTree → List LinkSymbol
unit_defines u =
    flat_map (λ b. body_defines b.symbol b.kind) u.bodies ++ map (λ p. link Data p.symbol) u.objects ++ map (λ p. link Flag p.symbol) u.flags
    ++ flat_map protected_defines u.protected_objects
