-- Short texts with what is wrong with them, over a reading that knows two things: `foo` is not visible anywhere, and a subprogram that is
-- declared waits until a body is there, which none does. A body is entered with its head. So the walk itself is compared with lists that are known.
use Rattle.std.specs.Prelude.{◌≡◌, ◌+◌, ℕ, pos, false, List, [], ◌∷◌, Option, Some, None, Result, Ok, Err, codes, if◌then◌else◌}
use Rattle.std.specs.Str.{bytes_eq}
use Rattle.al_base.specs.declared.place.Place.{Place}
use Rattle.al_view.specs.declared.view.ObjectPlace.TheVariants.{Frame}
use Rattle.al_base_fault.specs.Faults.{fault_at}
use Rattle.al_base_fault.specs.declared.fault.Fault.{Fault}
use Rattle.al_base_fault.specs.declared.check_rule.CheckRule.{CheckRule}
use Rattle.al_base_fault.specs.declared.check_rule.CheckRule.TheVariants.{BadChoices, BadReturn, EndName, MissingCompletion, NoReturn, NotVisible}
use Rattle.al_tree_grammar.specs.Grammar.{Label}
use Rattle.al_tree_syntax.specs.DeclarationTrees.{CommonTree, CompoundNameTree, DiscreteRangeTree, ObjectFormTree, SpecificationTree}
use Rattle.al_tree_syntax.specs.DeclarationTrees.CommonTree.{ObjectDeclaration}
use Rattle.al_tree_syntax.specs.DeclarationTrees.DiscreteRangeTree.{Bounds}
use Rattle.al_tree_syntax.specs.DeclarationTrees.ObjectFormTree.{TypedObject}
use Rattle.al_tree_syntax.specs.DeclarationTrees.ObjectTypeTree.{NamedType}
use Rattle.al_tree_syntax.specs.DeclarationTrees.SpecificationTree.{FunctionSpecification, ProcedureSpecification}
use Rattle.al_tree_syntax.specs.ExpressionTrees.{ExpressionTree}
use Rattle.al_tree_syntax.specs.ExpressionTrees.ExpressionTree.{Name}
use Rattle.al_tree_syntax.specs.StatementTrees.{HandledTree, ItemTree, ItemsTree, OperationBodyTree, StatementTree, StatementsTree}
use Rattle.al_tree_syntax.specs.StatementTrees.AlternativeTree.{Alternative}
use Rattle.al_tree_syntax.specs.StatementTrees.AlternativesTree.{NoAlternative}
use Rattle.al_tree_syntax.specs.StatementTrees.BlockTree.{DeclareBlock}
use Rattle.al_tree_syntax.specs.StatementTrees.BodyTree.{Body}
use Rattle.al_tree_syntax.specs.StatementTrees.BranchTree.{Branch}
use Rattle.al_tree_syntax.specs.StatementTrees.ChoiceTree.{OthersChoice}
use Rattle.al_tree_syntax.specs.StatementTrees.ElseTree.{NoElse}
use Rattle.al_tree_syntax.specs.StatementTrees.ElsifsTree.{NoElsif, MoreElsifs}
use Rattle.al_tree_syntax.specs.StatementTrees.HandledTree.{Handled}
use Rattle.al_tree_syntax.specs.StatementTrees.ItemTree.{CommonItem, SubprogramItem, BodyItem, TaskBodyItem, ProtectedBodyItem}
use Rattle.al_tree_syntax.specs.StatementTrees.ItemsTree.{NoItem, MoreItems}
use Rattle.al_tree_syntax.specs.StatementTrees.LoopTree.{PlainLoop, WhileLoop, ForLoop}
use Rattle.al_tree_syntax.specs.StatementTrees.MoreStatementsTree.{NoStatement, MoreStatements}
use Rattle.al_tree_syntax.specs.StatementTrees.OperationBodiesTree.{NoOperationBody, MoreOperationBodies}
use Rattle.al_tree_syntax.specs.StatementTrees.OperationBodyTree.{SubprogramOperation, EntryOperation}
use Rattle.al_tree_syntax.specs.StatementTrees.StatementTree.{NullStatement, Assignment, ReturnStatement, IfStatement, CaseStatement, LoopStatement, BlockStatement}
use Rattle.al_tree_syntax.specs.StatementTrees.StatementsTree.{Statements}
use Rattle.al_overload_lookup.specs.Places.{first_place, place_of}
use Rattle.al_stmts.specs.declared.choice.Choice.TheVariants.{Others}
use Rattle.al_stmts.specs.declared.returns.EnclosingBody.TheVariants as bodies
use Rattle.al_stmts.specs.FaultLists.{all_faults}
use Rattle.al_view_typed.specs.DeclarationTrees.{DeclarationTree}
use Rattle.al_view_typed.specs.ExpressionTrees.{TypedTree}
use Rattle.al_view_typed.specs.ExpressionTrees.FormTree.{NamedForm}
use Rattle.al_view_typed.specs.ExpressionTrees.NameTree.{ObjectName}
use Rattle.al_view_typed.specs.ExpressionTrees.TypedTree.{Labelled}
use Rattle.al_view_typed.specs.declared.label.ExpressionType.TheVariants.{RootInteger}
use Rattle.al_view_typed.specs.declared.label.Labels.{Labels}
use Rattle.al_view_typed.specs.UnitTrees.{BodyTree as LabelledBody}
use Rattle.al_stmts.specs.LoopForms.{RangeTree}
use Rattle.al_stmts.specs.declared.simple.ReturnContext.{ReturnContext}
use Rattle.al_stmts.specs.Readings.{Put, Read, Reading}
use Rattle.al_stmts.specs.Steps.{Enclosing, in_body}
use Rattle.al_stmts.specs.Walking.{items_walked, statements_walked}

-- ---- the reading

abbrev pub labels_at : Place → Labels
labels_at place = record { place = place; of = RootInteger; bounds = None; words = 1; value = None }

-- a name that is visible is a variable
abbrev pub variable_at : Place → TypedTree
variable_at place = Labelled (labels_at place) (NamedForm (ObjectName (Frame 1 3) false))

abbrev pub named : Label → Result TypedTree Fault
named l = if bytes_eq l.text (codes "foo") then Err (fault_at (place_of l) NotVisible) else Ok (variable_at (place_of l))

abbrev pub found : ExpressionTree → Result TypedTree Fault
found (Name l) = named l
found e = Ok (variable_at (first_place e))

abbrev pub read : {H : Type 0} → H → ExpressionTree → Read H TypedTree
read h e = (h, found e)

abbrev pub bounds_found : Result TypedTree Fault → Result TypedTree Fault → Result RangeTree Fault
bounds_found (Ok low) (Ok high) = Ok (record { low = low; high = high; mark = None })
bounds_found (Ok low) (Err f) = Err f
bounds_found (Err f) high = Err f

abbrev pub range_found : DiscreteRangeTree → Result RangeTree Fault
range_found (Bounds r) = bounds_found (found r.low) (found r.high)
range_found r = bounds_found (named (record { text = []; line = 1; col = 1 })) (named (record { text = []; line = 1; col = 1 }))

abbrev pub mark_found : CompoundNameTree → Result (List DeclarationTree) Fault
mark_found mark = if bytes_eq mark.first.text (codes "foo") then Err (fault_at (place_of mark.first) NotVisible) else Ok []

abbrev pub form_found : ObjectFormTree → Result (List DeclarationTree) Fault
form_found (TypedObject constant (NamedType s) initial) = mark_found s.mark
form_found form = Ok []

abbrev pub declaration_found : CommonTree → Result (List DeclarationTree) Fault
declaration_found (ObjectDeclaration o) = form_found o.form
declaration_found d = Ok []

abbrev pub name_in : SpecificationTree → List ℕ
name_in (ProcedureSpecification l n f) = n.first.text
name_in (FunctionSpecification l n f r m) = n.first.text

abbrev pub context_of : SpecificationTree → ReturnContext
context_of (ProcedureSpecification l n f) = record { body = bodies.Procedure; words = 0; bounds = None }
context_of (FunctionSpecification l n f r m) = record { body = bodies.Function; words = 1; bounds = None }

-- how far the check has come: of the bodies round the place, the innermost first, the names that wait for a body in it and what returns in it
-- are in
abbrev pub Bodies : Type 0
Bodies = List (List (List ℕ) × ReturnContext)

abbrev pub with_waiting : Bodies → List ℕ → Bodies
with_waiting [] name = []
with_waiting (b ∷ bs) name = (name ∷ b.0, b.1) ∷ bs

-- where any name waits
abbrev pub waiting_fault : List (List ℕ) → Label → Option Fault
waiting_fault [] l = None
waiting_fault (n ∷ ns) l = Some (fault_at (place_of l) MissingCompletion)

abbrev pub waiting : Bodies → Label → Option Fault
waiting [] l = None
waiting (b ∷ bs) l = waiting_fault b.0 l

abbrev pub in_procedure : ReturnContext
in_procedure = record { body = bodies.Procedure; words = 0; bounds = None }

abbrev pub in_task : ReturnContext
in_task = record { body = bodies.Task; words = 0; bounds = None }

abbrev pub in_entry : ReturnContext
in_entry = record { body = bodies.Entry; words = 0; bounds = None }

-- of the object foo an operation is never completed
abbrev pub operations_missing : Label → List (List ℕ)
operations_missing n = if bytes_eq n.text (codes "foo") then n.text ∷ [] else []

abbrev pub innermost : Bodies → ReturnContext
innermost [] = in_procedure
innermost (b ∷ bs) = b.1

abbrev pub round_innermost : Bodies → Bodies
round_innermost [] = []
round_innermost (b ∷ bs) = bs

-- case statements are never right
abbrev pub toy : LabelledBody → Reading Bodies
toy some_body = record {
  condition = read;
  moment = read;
  target = read;
  source = λ h n e. read h e;
  call_effect = λ h e. (h, Ok (Put [] false));
  result = read;
  selector = read;
  whole = λ h e. record { low = pos 0; high = pos 0 };
  choice = λ h e c. Ok Others;
  are_right = λ s cs. false;
  word = λ h. 3;
  with_word = λ h. h;
  loop_entered = λ h i. h;
  loop_range = λ h d. (h, range_found d);
  with_parameter = λ h i r w. h;
  block_entered = λ h. h;
  left = λ h. h;
  declared = λ h d. (h, declaration_found d);
  subprogram = λ h s. (with_waiting h (name_in s), Ok []);
  stub = λ h s l. (h, Ok []);
  single_task = λ h t. (h, Ok []);
  single_object = λ h l p. (h, Ok []);
  missing = waiting;
  incomplete = λ h l. None;
  head = λ h s. (([], context_of s) ∷ h, Ok []);
  task_head = λ h n. (([], in_task) ∷ h, Ok []);
  entry_head = λ h n barrier. (([], in_entry) ∷ h, Ok []);
  body_entered = λ h. h;
  returns = innermost;
  body = λ h extent ds ss. some_body;
  body_left = round_innermost;
  object_entered = λ h l n os. ((operations_missing n, in_procedure) ∷ h, Ok []);
  object_left = round_innermost;
  private_entered = λ h. h;
  statements_entered = λ h. h;
}

-- ---- the texts

abbrev pub at : ℕ → Label
at col = record { text = []; line = 1; col = col }

abbrev pub foo : ℕ → Label
foo col = record { text = codes "foo"; line = 1; col = col }

abbrev pub x : ℕ → Label
x col = record { text = codes "x"; line = 1; col = col }

abbrev pub fault : ℕ → CheckRule → Fault
fault col rule = fault_at (record { line = 1; col = col }) rule

-- x := x; foo := x;
abbrev pub right_at : ℕ → StatementTree
right_at col = Assignment (Name (x col)) (Name (x (col + 5)))

abbrev pub wrong_at : ℕ → StatementTree
wrong_at col = Assignment (Name (foo col)) (Name (x (col + 7)))

abbrev pub two : StatementTree → StatementTree → StatementsTree
two a b = Statements a (MoreStatements b NoStatement)

abbrev pub one : StatementTree → StatementsTree
one a = Statements a NoStatement

abbrev pub object_of : Label → ItemsTree
object_of mark = MoreItems (CommonItem (ObjectDeclaration (record {
  names = record { first = x 1; others = [] };
  form = TypedObject false (NamedType (record { mark = record { first = mark; selectors = [] }; constraint = None })) None;
}))) NoItem

-- begin null; end;
abbrev pub block_with : ItemsTree → StatementTree
block_with is = BlockStatement None (DeclareBlock (at 30) (Handled is (at 48) (one NullStatement) (record { end = at 60; end_name = None })))

abbrev pub enclosing : Enclosing
enclosing = in_body in_procedure

abbrev pub answered : LabelledBody → StatementsTree → List Fault
answered b ss = all_faults (statements_walked (toy b) enclosing (([], in_procedure) ∷ []) ss).1.checked.faults

abbrev pub told_of_items : LabelledBody → ItemsTree → List Fault
told_of_items b is = all_faults (items_walked (toy b) (([], in_procedure) ∷ []) is).1.faults

-- foo := x; foo := x;
abbrev pub FaultyStatementsEndNoList : Type 0
FaultyStatementsEndNoList = (b : LabelledBody) → answered b (two (wrong_at 22) (wrong_at 32)) ≡ fault 22 NotVisible ∷ fault 32 NotVisible ∷ []

-- while foo loop foo := x; end loop;
abbrev pub FaultyConditionsHideNothing : Type 0
FaultyConditionsHideNothing =
    (b : LabelledBody) → answered b (one (LoopStatement None (WhileLoop (at 22) (Name (foo 28)) (at 32) (one (wrong_at 37)) (record { end = at 50; closing = at 54; end_name = None }))))
    ≡ fault 28 NotVisible ∷ fault 37 NotVisible ∷ []

-- for x in x .. foo loop foo := x; end loop; foo := x;
abbrev pub FaultyLoopRangesEndTheList : Type 0
FaultyLoopRangesEndTheList =
    (b : LabelledBody) → answered b (two (LoopStatement None (ForLoop (at 22) (x 26) false (Bounds (record { low = Name (x 31); high = Name (foo 36) })) (at 40) (one (wrong_at 45)) (record { end = at 56; closing = at 60; end_name = None }))) (wrong_at 66))
    ≡ fault 36 NotVisible ∷ []

-- loop declare x : foo; begin null; end; foo := x; end loop x;
abbrev pub FaultyDeclarationsCutOffEnds : Type 0
FaultyDeclarationsCutOffEnds =
    (b : LabelledBody) → answered b (one (LoopStatement None (PlainLoop (at 22) (two (block_with (object_of (foo 43))) (wrong_at 66)) (record { end = at 77; closing = at 81; end_name = Some (x 86) }))))
    ≡ fault 43 NotVisible ∷ []

-- loop foo := x; end loop x;
abbrev pub NamesAtEndsAreOfTheLoop : Type 0
NamesAtEndsAreOfTheLoop =
    (b : LabelledBody) → answered b (one (LoopStatement None (PlainLoop (at 22) (one (wrong_at 27)) (record { end = at 40; closing = at 44; end_name = Some (x 49) }))))
    ≡ fault 49 EndName ∷ fault 27 NotVisible ∷ []

-- case x is when others => declare x : foo; begin null; end; end case; foo := x;
abbrev pub FaultsBeforeADeclarationStay : Type 0
FaultsBeforeADeclarationStay =
    (b : LabelledBody) → answered b (two (CaseStatement (at 22) (Name (x 27)) (Alternative OthersChoice [] (one (block_with (object_of (foo 67))))) NoAlternative (at 90) (at 94)) (wrong_at 100))
    ≡ fault 22 BadChoices ∷ fault 67 NotVisible ∷ []

-- if x then foo := x; elsif foo then foo := x; end if;
abbrev pub OneFaultOfAllConditions : Type 0
OneFaultOfAllConditions =
    (b : LabelledBody) → answered b (one (IfStatement (at 22) (Branch (Name (x 25)) (one (wrong_at 32))) (MoreElsifs (at 43) (Branch (Name (foo 49)) (one (wrong_at 58))) NoElsif) NoElse (at 70) (at 74)))
    ≡ fault 49 NotVisible ∷ fault 32 NotVisible ∷ fault 58 NotVisible ∷ []

abbrev pub body_of : SpecificationTree → ItemsTree → StatementsTree → Option CompoundNameTree → ItemTree
body_of s is ss end_name = BodyItem s (Body is (at 60) ss (record { end = at 90; end_name = end_name }))

abbrev pub procedure_x : SpecificationTree
procedure_x = ProcedureSpecification (at 16) (record { first = x 26; selectors = [] }) None

abbrev pub function_x : SpecificationTree
function_x = FunctionSpecification (at 16) (record { first = x 25; selectors = [] }) None (at 28) (record { first = x 35; selectors = [] })

-- function x return x is begin foo := x; end foo; a second item
abbrev pub FunctionsReturn : Type 0
FunctionsReturn =
    (b : LabelledBody) → told_of_items b (MoreItems (body_of function_x NoItem (one (wrong_at 66)) (Some (record { first = foo 94; selectors = [] }))) (object_of (foo 110)))
    ≡ fault 66 NotVisible ∷ fault 90 NoReturn ∷ fault 94 EndName ∷ []

-- function x return x is function x return x is begin return x; end; begin null; end;
abbrev pub ReturnsAreOfTheInnermostBody : Type 0
ReturnsAreOfTheInnermostBody =
    (b : LabelledBody) → told_of_items b (MoreItems (body_of function_x (MoreItems (body_of function_x NoItem (one (ReturnStatement (at 66) (Some (Name (x 73))))) None) NoItem) (one NullStatement) None) NoItem)
    ≡ fault 90 NoReturn ∷ []

-- procedure x is procedure x; begin foo := x; end;
abbrev pub WhatWaitsEndsTheList : Type 0
WhatWaitsEndsTheList =
    (b : LabelledBody) → told_of_items b (MoreItems (body_of procedure_x (MoreItems (SubprogramItem procedure_x) NoItem) (one (wrong_at 66)) None) (object_of (foo 110)))
    ≡ fault 60 MissingCompletion ∷ []

-- procedure x is x : foo; begin foo := x; end;
abbrev pub FaultyDeclarationsEndTheList : Type 0
FaultyDeclarationsEndTheList =
    (b : LabelledBody) → told_of_items b (MoreItems (body_of procedure_x (object_of (foo 50)) (one (wrong_at 66)) None) (object_of (foo 110)))
    ≡ fault 50 NotVisible ∷ []

-- ---- bodies of tasks and protected objects

abbrev pub inside_of_task : ExpressionTree → Option Label → HandledTree
inside_of_task e end_name = Handled NoItem (at 40) (one (ReturnStatement (at 50) (Some e))) (record { end = at 90; end_name = end_name })

-- task body x is begin return x; end foo; a second item
abbrev pub NoValueIsReturnedInATask : Type 0
NoValueIsReturnedInATask =
    (b : LabelledBody) → told_of_items b (MoreItems (TaskBodyItem (at 16) (x 26) (inside_of_task (Name (x 57)) (Some (foo 94)))) (object_of (foo 110)))
    ≡ fault 50 BadReturn ∷ fault 94 EndName ∷ []

abbrev pub wrong_operation : OperationBodyTree
wrong_operation = SubprogramOperation procedure_x (Body NoItem (at 60) (one (wrong_at 66)) (record { end = at 80; end_name = None }))

abbrev pub wrong_entry : OperationBodyTree
wrong_entry = EntryOperation (at 100) (x 106) (Name (x 113)) (Handled NoItem (at 118) (one (wrong_at 124)) (record { end = at 138; end_name = None }))

-- protected body foo is procedure x is begin foo := x; end; end x; if an operation has no body, a second item
abbrev pub WhatIsMissingEndsAProtectedBody : Type 0
WhatIsMissingEndsAProtectedBody =
    (b : LabelledBody) → told_of_items b (MoreItems (ProtectedBodyItem (at 16) (foo 31) (MoreOperationBodies wrong_operation NoOperationBody) (record { end = at 90; end_name = Some (x 94) })) (object_of (foo 110)))
    ≡ fault 66 NotVisible ∷ fault 90 MissingCompletion ∷ []

-- protected body x is procedure x is begin foo := x; end; entry x when x is begin foo := x; end; end foo; a second item
abbrev pub OperationsStandOneAfterAnother : Type 0
OperationsStandOneAfterAnother =
    (b : LabelledBody) → told_of_items b (MoreItems (ProtectedBodyItem (at 16) (x 31) (MoreOperationBodies wrong_operation (MoreOperationBodies wrong_entry NoOperationBody)) (record { end = at 150; end_name = Some (foo 154) })) (object_of (foo 170)))
    ≡ fault 66 NotVisible ∷ fault 124 NotVisible ∷ fault 154 EndName ∷ []
