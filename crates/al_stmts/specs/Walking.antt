-- The walk over statements, blocks and bodies: what is wrong with them, and what they are with their labels. What was walked over is in a
-- pair: how far the check has come after it, and what it gives.
use Rattle.std.specs.Prelude.{ℕ, Bool, true, false, List, ◌∷◌, ◌++◌, fold, Option, Some, None, option_map, is_some, is_ok, Result, Ok, Err, if◌then◌else◌}
use Rattle.al_base.specs.declared.place.Place.{Place}
use Rattle.al_base_fault.specs.declared.check_rule.CheckRule.TheVariants.{BadReturn}
use Rattle.al_base_fault.specs.Faults.{fault_at}
use Rattle.al_base_fault.specs.Judging.{next}
use Rattle.al_base_fault.specs.declared.fault.Fault.{Fault}
use Rattle.al_tree_grammar.specs.Grammar.{Label}
use Rattle.al_tree_syntax.specs.DeclarationTrees.{CompoundNameTree, DiscreteRangeTree, SpecificationTree}
use Rattle.al_tree_syntax.specs.DeclarationTrees.SpecificationTree.{FunctionSpecification, ProcedureSpecification}
use Rattle.al_tree_syntax.specs.ExpressionTrees.{ExpressionTree}
use Rattle.al_tree_syntax.specs.StatementTrees.{AlternativeTree, AlternativesTree, BlockTree, BodyTree, BranchTree, CompoundEndTree, ElseTree, ElsifsTree, HandledTree, ItemTree, ItemsTree, LoopTree, MoreStatementsTree, NamedEndTree, OperationBodiesTree, OperationBodyTree, StatementTree, StatementsTree}
use Rattle.al_tree_syntax.specs.StatementTrees.StatementsTree.{Statements}
use Rattle.al_tree_syntax.specs.StatementTrees.MoreStatementsTree.{NoStatement, MoreStatements}
use Rattle.al_tree_syntax.specs.StatementTrees.StatementTree.{NullStatement, Assignment, CallStatement, ReturnStatement, ExitStatement, DelayStatement, IfStatement, CaseStatement, LoopStatement, BlockStatement}
use Rattle.al_tree_syntax.specs.StatementTrees.BranchTree.{Branch}
use Rattle.al_tree_syntax.specs.StatementTrees.ElsifsTree.{NoElsif, MoreElsifs}
use Rattle.al_tree_syntax.specs.StatementTrees.ElseTree.{NoElse, Else}
use Rattle.al_tree_syntax.specs.StatementTrees.AlternativeTree.{Alternative}
use Rattle.al_tree_syntax.specs.StatementTrees.AlternativesTree.{NoAlternative, MoreAlternatives}
use Rattle.al_tree_syntax.specs.StatementTrees.LoopTree.{PlainLoop, WhileLoop, ForLoop}
use Rattle.al_tree_syntax.specs.StatementTrees.BlockTree.{DeclareBlock, PlainBlock}
use Rattle.al_tree_syntax.specs.StatementTrees.HandledTree.{Handled}
use Rattle.al_tree_syntax.specs.StatementTrees.BodyTree.{Body}
use Rattle.al_tree_syntax.specs.StatementTrees.ItemsTree.{NoItem, MoreItems}
use Rattle.al_tree_syntax.specs.StatementTrees.ItemTree.{CommonItem, SubprogramItem, StubItem, BodyItem, TaskItem, TaskBodyItem, ProtectedItem, ProtectedBodyItem}
use Rattle.al_tree_syntax.specs.StatementTrees.OperationBodiesTree.{NoOperationBody, MoreOperationBodies}
use Rattle.al_tree_syntax.specs.StatementTrees.OperationBodyTree.{SubprogramOperation, EntryOperation}
use Rattle.al_overload_lookup.specs.Places.{first_place, place_of}
use Rattle.al_stmts.specs.declared.choice.Selector.{Selector}
use Rattle.al_stmts.specs.Ends.{end_fault}
use Rattle.al_stmts.specs.Returns.{no_return_fault}
use Rattle.al_stmts.specs.declared.returns.EnclosingBody.{EnclosingBody}
use Rattle.al_stmts.specs.declared.returns.EnclosingBody.TheVariants as bodies
use Rattle.al_view_typed.specs.DeclarationTrees.{DeclarationTree}
use Rattle.al_view_typed.specs.ExpressionTrees.{TypedTree}
use Rattle.al_view_typed.specs.StatementTrees.{SchemeTree, StatementTree as Labelled, StatementFormTree as forms, SchemeTree as schemes}
use Rattle.al_view_typed.specs.StatementTrees.StatementTree.{Numbered}
use Rattle.al_stmts.specs.Cases.{held_by, no_alternative, no_choice, selected, with_choice, with_choices}
use Rattle.al_stmts.specs.LoopForms.{RangeTree, for_scheme, while_scheme}
use Rattle.al_stmts.specs.Simple.{assigned, called, delayed, exited, put, returned, target_of, TargetTree}
use Rattle.al_stmts.specs.declared.choices.CaseChoices.{CaseChoices}
use Rattle.al_stmts.specs.declared.loops.LoopWords.{LoopWords}
use Rattle.al_stmts.specs.declared.simple.ReturnContext.{ReturnContext}
use Rattle.al_stmts.specs.Returning.{has_return}
use Rattle.al_stmts.specs.Readings.{CallEffect, Called, Put, Read, Reading}
use Rattle.al_stmts.specs.declared.extent.BodyExtent.{BodyExtent}
use Rattle.al_stmts.specs.Steps.{Enclosing, Branching, Choosing, Inside, Part, Walked, alone_of, block_of, body_of, broken_by, case_of, choosing, closed_by, if_of, in_body, in_loop, inside_of, joined, loop_of, name_of, no_branching, no_part, nothing, object_of, one_alternative, one_branch, one_otherwise, part_of, parts_joined}

-- a statement with nothing inside it
abbrev pub alone_at : {H : Type 0} → H → Result Labelled Fault → H × Walked
alone_at env checked = (env, alone_of checked)

-- ---- statements without statements inside them

abbrev pub assigned_at : {H : Type 0} → Reading H → H → ExpressionTree → ExpressionTree → Result TargetTree Fault → H × Walked
assigned_at R h n e (Err f) = alone_at h (Err f)
assigned_at R h n e (Ok target) = let value = R.source h n e in alone_at value.0 (assigned (first_place n).line target value.1)

abbrev pub assignment_walked : {H : Type 0} → Reading H → H → ExpressionTree → ExpressionTree → H × Walked
assignment_walked R h n e = let found = R.target h n in assigned_at R found.0 n e (next found.1 target_of)

abbrev pub call_effect : ℕ → Result CallEffect Fault → Result Labelled Fault
call_effect line (Ok (Called call)) = called line (Ok call)
call_effect line (Ok (Put pieces ends_line)) = put line (Ok pieces) ends_line
call_effect line (Err f) = Err f

abbrev pub is_function : EnclosingBody → Bool
is_function bodies.Function = true
is_function _ = false

-- the value of a function
abbrev pub result_at : {H : Type 0} → Reading H → ReturnContext → H → Place → ExpressionTree → H × Walked
result_at R context h place e = let value = R.result h e in alone_at value.0 (returned place context (Some value.1))

-- a value that isn't wanted isn't looked at
abbrev pub return_walked : {H : Type 0} → Reading H → Enclosing → H → Place → Option ExpressionTree → H × Walked
return_walked R r h place None = alone_at h (returned place r.returns None)
return_walked R r h place (Some e) =
    if is_function r.returns.body then result_at R r.returns h place e
    else alone_at h (returned place r.returns (Some (Err (fault_at place BadReturn))))

abbrev pub maybe_condition : {H : Type 0} → Reading H → H → Option ExpressionTree → H × Option (Result TypedTree Fault)
maybe_condition R h None = (h, None)
maybe_condition R h (Some e) = let read = R.condition h e in (read.0, Some read.1)

-- ---- choices

abbrev pub choices_walked : {H : Type 0} → Reading H → H → ExpressionTree → CaseChoices → AlternativeTree → CaseChoices
choices_walked R h e so_far (Alternative first others ss) = with_choices so_far (fold (λ cs c. with_choice cs (R.choice h e c)) no_choice (first ∷ others))

abbrev pub more_choices : {H : Type 0} → Reading H → H → ExpressionTree → CaseChoices → AlternativesTree → CaseChoices
more_choices R h e so_far NoAlternative = so_far
more_choices R h e so_far (MoreAlternatives a more) = more_choices R h e (choices_walked R h e so_far a) more

-- of all alternatives; if the selector is faulty none is looked at
abbrev pub all_choices : {H : Type 0} → Reading H → H → ExpressionTree → Bool → AlternativeTree → AlternativesTree → CaseChoices
all_choices R h e is_right first more = if is_right then more_choices R h e (choices_walked R h e no_alternative first) more else no_alternative

-- whether they are right; if the selector is faulty nothing is asked of them
abbrev pub right_choices : {H : Type 0} → Reading H → H → ExpressionTree → Result TypedTree Fault → CaseChoices → Bool
right_choices R h e selector choices = held (held_by selector (R.whole h e))
  where
    held : Option Selector → Bool
    held None = true
    held (Some s) = R.are_right s choices.alternatives

-- ---- what comes before the statements inside a statement

-- a selector that was read, with its choices
abbrev pub case_after : {H : Type 0} → Reading H → H → Place → ℕ → ExpressionTree → Result TypedTree Fault → AlternativeTree → AlternativesTree → H × Choosing
case_after R h place slot e selector first more =
    let choices = all_choices R h e (is_ok selector) first more in
    (h, choosing slot (selected place selector choices.fault (right_choices R h e selector choices)) choices.alternatives)

-- a case statement up to its alternatives: the word that keeps its selector is taken first
abbrev pub case_head : {H : Type 0} → Reading H → H → Place → ExpressionTree → AlternativeTree → AlternativesTree → H × Choosing
case_head R h place e first more = let selector = R.selector (R.with_word h) e in case_after R selector.0 place (R.word h) e selector.1 first more

abbrev pub while_walked : {H : Type 0} → Read H TypedTree → H × Result SchemeTree Fault
while_walked condition = (condition.0, while_scheme condition.1)

-- the words of a loop's parameter and of its last value
abbrev pub loop_words : {H : Type 0} → Reading H → H → LoopWords
loop_words R h = record { parameter = R.word h; last = R.word (R.with_word h) }

-- a for loop up to its statements: both words are taken first; if its range is right the parameter is declared
abbrev pub parameter_declared : {H : Type 0} → Reading H → H → Label → Bool → LoopWords → Result RangeTree Fault → H × Result SchemeTree Fault
parameter_declared R h i is_reverse words (Ok range) = (R.with_parameter h i range words, Ok (for_scheme is_reverse range words))
parameter_declared R h i is_reverse words (Err f) = (h, Err f)

abbrev pub for_head : {H : Type 0} → Reading H → H → Label → Bool → DiscreteRangeTree → H × Result SchemeTree Fault
for_head R h i is_reverse d =
    let range = R.loop_range (R.loop_entered (R.with_word (R.with_word h)) i) d in parameter_declared R range.0 i is_reverse (loop_words R h) range.1

-- ---- names at ends

-- one identifier
abbrev pub name_at_end : Option Label → Option (Place × List ℕ)
name_at_end end = option_map (λ l. (place_of l, l.text)) end

-- a compound name with dots between its identifiers, at its first one
abbrev pub dotted : Label → List Label → List ℕ
dotted first selectors = fold (λ name l. name ++ 46 ∷ l.text) first.text selectors

abbrev pub compound_at_end : Option CompoundNameTree → Option (Place × List ℕ)
compound_at_end end = option_map (λ n. (place_of n.first, dotted n.first n.selectors)) end

abbrev pub specified_name : SpecificationTree → CompoundNameTree
specified_name (ProcedureSpecification l n formals) = n
specified_name (FunctionSpecification l n formals r mark) = n

-- E308 of what has a name that is one identifier, and of a subprogram
abbrev pub end_of : Option Label → Option Label → Option Fault
end_of name end = end_fault (name_of name) (name_at_end end)

abbrev pub end_of_compound : CompoundNameTree → Option CompoundNameTree → Option Fault
end_of_compound n end = end_fault (Some (dotted n.first n.selectors)) (compound_at_end end)

-- ---- from where to where

-- the line of the first token of a loop or a block, which is its name if it has one
abbrev pub named_line : Option Label → Label → ℕ
named_line None l = l.line
named_line (Some n) l = n.line

abbrev pub first_line : SpecificationTree → ℕ
first_line (ProcedureSpecification l n formals) = l.line
first_line (FunctionSpecification l n formals r mark) = l.line

-- a subprogram's body
abbrev pub subprogram_extent : SpecificationTree → CompoundEndTree → BodyExtent
subprogram_extent s e = record { line = first_line s; end = place_of e.end; name_fault = end_of_compound (specified_name s) e.end_name }

-- a body with a name that is one identifier
abbrev pub named_extent : Label → Label → NamedEndTree → BodyExtent
named_extent l n e = record { line = l.line; end = place_of e.end; name_fault = end_of (Some n) e.end_name }

-- ---- one text, and then what comes after it: nothing, if the list of faults has ended

abbrev pub walked_after : {H : Type 0} → H × Walked → H × Walked → H × Walked
walked_after a b = if is_some a.1.checked.faults.end then a else (b.0, joined a.1 b.1)

abbrev pub part_after : {H : Type 0} → H × Part → H × Part → H × Part
part_after a b = if is_some a.1.faults.end then a else (b.0, parts_joined a.1 b.1)

-- ---- parts of statements

abbrev pub declared_part : {H : Type 0} → Read H (List DeclarationTree) → H × Part
declared_part read = (read.0, part_of read.1)

-- a part up to `begin`: E302 there if a declaration of the part still waits
abbrev pub closed : {H : Type 0} → Reading H → H × Part → Label → H × Part
closed R part begin = (part.0, closed_by part.1 (R.missing part.0 begin))

-- the statements after a part, which aren't looked at if its list of faults has ended
abbrev pub inside_after : {H : Type 0} → H × Part → H × Walked → H × Inside
inside_after part inner = if is_some part.1.faults.end then (part.0, inside_of part.1 nothing) else (inner.0, inside_of part.1 inner.1)

-- a loop
abbrev pub loop_walked : {H : Type 0} → ℕ → Result SchemeTree Fault → Option Fault → H × Walked → H × Walked
loop_walked line scheme end inner = (inner.0, loop_of line scheme end inner.1)

abbrev pub region_left : {H : Type 0} → Reading H → H × Walked → H × Walked
region_left R inner = (R.left inner.0, inner.1)

-- the range of a for loop is a declaration, after whose fault nothing is looked at
abbrev pub for_walked : {H : Type 0} → Reading H → H → ℕ → Result SchemeTree Fault → Option Fault → H × Walked → H × Walked
for_walked R h line (Ok scheme) end inner = region_left R (loop_walked line (Ok scheme) end inner)
for_walked R h line (Err f) end inner = region_left R (h, broken_by f)

-- the region of a body, and what its statements are in
abbrev pub body_entered : {H : Type 0} → Reading H → H → H × Enclosing
body_entered R h = let inner = R.body_entered h in (inner, in_body (R.returns inner))

-- a body after what is inside it, with E504 if a function has no return statement
abbrev pub body_ended : {H : Type 0} → Reading H → List DeclarationTree → BodyExtent → Option Fault → H × Inside → H × Part
body_ended R effects extent no_return inside =
    (R.body_left inside.0, body_of effects no_return extent.name_fault (R.body inside.0 extent inside.1.declarations inside.1.statements) inside.1)

-- after its head a body; if that is faulty nothing after it is looked at
abbrev pub body_after : {H : Type 0} → Reading H → Read H (List DeclarationTree) → BodyExtent → Option Fault → H × Inside → H × Part
body_after {H} R head extent no_return inside = made head.1
  where
    made : Result (List DeclarationTree) Fault → H × Part
    made (Err f) = (head.0, part_of (Err f))
    made (Ok effects) = body_ended R effects extent no_return inside

-- any body after its head, of a subprogram, a task or an entry, by the walks over its declarations, up to `begin`, and over its statements
abbrev pub body_by : {H : Type 0} → Reading H → Read H (List DeclarationTree) → BodyExtent → (H → H × Part) → Label → Bool → (Enclosing → H → H × Walked) → H × Part
body_by R head extent items begin has statements =
    let inner = body_entered R head.0 in
    let part = closed R (items inner.0) begin in
    body_after R head extent (no_return_fault extent.end inner.1.returns.body has) (inside_after part (statements inner.1 part.0))

-- a protected body with the bodies of its operations, whose region is left: E302 at its `end` if one is missing
abbrev pub object_ended : {H : Type 0} → Reading H → List DeclarationTree → Option Fault → H × Part → H × Part
object_ended R effects end operations = (R.object_left operations.0, object_of effects end operations.1)

abbrev pub object_after : {H : Type 0} → Reading H → Read H (List DeclarationTree) → Label → NamedEndTree → H × Part → H × Part
object_after {H} R opened n e operations = made opened.1
  where
    made : Result (List DeclarationTree) Fault → H × Part
    made (Err f) = (opened.0, part_of (Err f))
    made (Ok effects) = object_ended R effects (end_of (Some n) e.end_name) (closed R operations e.end)

-- ---- the walk

abbrev mutual
  pub statements_walked : {H : Type 0} → Reading H → Enclosing → H → StatementsTree → H × Walked
  statements_walked R r h (Statements s more) = let one = statement_walked R r h s in walked_after one (more_walked R r one.0 more)

  pub more_walked : {H : Type 0} → Reading H → Enclosing → H → MoreStatementsTree → H × Walked
  more_walked R r h NoStatement = (h, nothing)
  more_walked R r h (MoreStatements s more) = let one = statement_walked R r h s in walked_after one (more_walked R r one.0 more)

  pub statement_walked : {H : Type 0} → Reading H → Enclosing → H → StatementTree → H × Walked
  -- its line is never seen, as it has no code
  statement_walked R r h NullStatement = alone_at h (Ok (Numbered 0 forms.NullStatement))
  statement_walked R r h (Assignment n e) = assignment_walked R h n e
  statement_walked R r h (CallStatement n) = let read = R.call_effect h n in alone_at read.0 (call_effect (first_place n).line read.1)
  statement_walked R r h (ReturnStatement l e) = return_walked R r h (place_of l) e
  statement_walked R r h (ExitStatement l n c) =
      let condition = maybe_condition R h c in alone_at condition.0 (exited (place_of l) r.loops (name_of n) condition.1)
  statement_walked R r h (DelayStatement l e) = let read = R.moment h e in alone_at read.0 (delayed l.line read.1)
  statement_walked R r h (IfStatement l b bs e m c) =
      let whole = else_walked R r (elsifs_walked R r (branch_walked R r (h, no_branching) l.line b) bs) e in (whole.0, if_of l.line whole.1)
  statement_walked R r h (CaseStatement l e a more m c) =
      let whole = alternatives_walked R r (alternative_walked R r (case_head R h (place_of l) e a more) a) more in (whole.0, case_of l.line whole.1)
  statement_walked R r h (LoopStatement n l) = inner_loop_walked R r h n l
  statement_walked R r h (BlockStatement n b) = inner_block_walked R r h n b

  pub branch_walked : {H : Type 0} → Reading H → Enclosing → H × Branching → ℕ → BranchTree → H × Branching
  branch_walked R r so_far line (Branch c ss) =
      let condition = R.condition so_far.0 c in let inner = statements_walked R r condition.0 ss in (inner.0, one_branch so_far.1 line condition.1 inner.1)

  pub elsifs_walked : {H : Type 0} → Reading H → Enclosing → H × Branching → ElsifsTree → H × Branching
  elsifs_walked R r so_far NoElsif = so_far
  elsifs_walked R r so_far (MoreElsifs l b bs) = if is_some so_far.1.so_far.faults.end then so_far else elsifs_walked R r (branch_walked R r so_far l.line b) bs

  pub else_walked : {H : Type 0} → Reading H → Enclosing → H × Branching → ElseTree → H × Branching
  else_walked R r so_far NoElse = so_far
  else_walked R r so_far (Else ss) =
      if is_some so_far.1.so_far.faults.end then so_far else (let inner = statements_walked R r so_far.0 ss in (inner.0, one_otherwise so_far.1 inner.1))

  pub alternative_walked : {H : Type 0} → Reading H → Enclosing → H × Choosing → AlternativeTree → H × Choosing
  alternative_walked R r so_far (Alternative first others ss) = let inner = statements_walked R r so_far.0 ss in (inner.0, one_alternative so_far.1 inner.1)

  pub alternatives_walked : {H : Type 0} → Reading H → Enclosing → H × Choosing → AlternativesTree → H × Choosing
  alternatives_walked R r so_far NoAlternative = so_far
  alternatives_walked R r so_far (MoreAlternatives a more) =
      if is_some so_far.1.so_far.faults.end then so_far else alternatives_walked R r (alternative_walked R r so_far a) more

  pub inner_loop_walked : {H : Type 0} → Reading H → Enclosing → H → Option Label → LoopTree → H × Walked
  inner_loop_walked R r h n (PlainLoop l ss e) = loop_walked (named_line n l) (Ok schemes.ForeverScheme) (end_of n e.end_name) (statements_walked R (in_loop r n) h ss)
  inner_loop_walked R r h n (WhileLoop w c l ss e) =
      let head = while_walked (R.condition h c) in loop_walked (named_line n w) head.1 (end_of n e.end_name) (statements_walked R (in_loop r n) head.0 ss)
  inner_loop_walked R r h n (ForLoop f i is_reverse d l ss e) =
      let head = for_head R h i is_reverse d in for_walked R head.0 (named_line n f) head.1 (end_of n e.end_name) (statements_walked R (in_loop r n) head.0 ss)

  pub inner_block_walked : {H : Type 0} → Reading H → Enclosing → H → Option Label → BlockTree → H × Walked
  inner_block_walked R r h n (PlainBlock l ss e) =
      let inner = statements_walked R r h ss in (inner.0, block_of (named_line n l) (end_of n e.end_name) (inside_of no_part inner.1))
  inner_block_walked R r h n (DeclareBlock l inner) = handled_walked R r h n (named_line n l) inner

  pub handled_walked : {H : Type 0} → Reading H → Enclosing → H → Option Label → ℕ → HandledTree → H × Walked
  handled_walked R r h n line (Handled is b ss e) =
      let part = closed R (items_walked R (R.block_entered h) is) b in
      let inside = inside_after part (statements_walked R r part.0 ss) in (R.left inside.0, block_of line (end_of n e.end_name) inside.1)

  pub items_walked : {H : Type 0} → Reading H → H → ItemsTree → H × Part
  items_walked R h NoItem = (h, no_part)
  items_walked R h (MoreItems i is) = let one = item_walked R h i in part_after one (items_walked R one.0 is)

  pub item_walked : {H : Type 0} → Reading H → H → ItemTree → H × Part
  item_walked R h (CommonItem c) = declared_part (R.declared h c)
  item_walked R h (SubprogramItem s) = declared_part (R.subprogram h s)
  item_walked R h (StubItem s l) = declared_part (R.stub h s l)
  item_walked R h (BodyItem s b) = body_walked R h s b
  item_walked R h (TaskItem t) = declared_part (R.single_task h t)
  item_walked R h (TaskBodyItem l n inner) = task_walked R h l n inner
  item_walked R h (ProtectedItem l p) = declared_part (R.single_object h l p)
  item_walked R h (ProtectedBodyItem l n os e) =
      let opened = R.object_entered h l n os in object_after R opened n e (operations_walked R opened.0 os)

  pub operations_walked : {H : Type 0} → Reading H → H → OperationBodiesTree → H × Part
  operations_walked R h NoOperationBody = (h, no_part)
  operations_walked R h (MoreOperationBodies o os) = let one = operation_walked R h o in part_after one (operations_walked R one.0 os)

  pub operation_walked : {H : Type 0} → Reading H → H → OperationBodyTree → H × Part
  operation_walked R h (SubprogramOperation s b) = body_walked R h s b
  operation_walked R h (EntryOperation l n barrier inner) = entry_walked R h l n barrier inner

  pub body_walked : {H : Type 0} → Reading H → H → SpecificationTree → BodyTree → H × Part
  body_walked R h s (Body is l ss e) =
      body_by R (R.head h s) (subprogram_extent s e) (λ k. items_walked R k is) l (has_return ss) (λ r k. statements_walked R r k ss)

  pub task_walked : {H : Type 0} → Reading H → H → Label → Label → HandledTree → H × Part
  task_walked R h l n (Handled is b ss e) =
      body_by R (R.task_head h n) (named_extent l n e) (λ k. items_walked R k is) b (has_return ss) (λ r k. statements_walked R r k ss)

  pub entry_walked : {H : Type 0} → Reading H → H → Label → Label → ExpressionTree → HandledTree → H × Part
  entry_walked R h l n barrier (Handled is b ss e) =
      body_by R (R.entry_head h n barrier) (named_extent l n e) (λ k. items_walked R k is) b (has_return ss) (λ r k. statements_walked R r k ss)

-- any body after its head
abbrev pub walked_body : {H : Type 0} → Reading H → Read H (List DeclarationTree) → BodyExtent → ItemsTree → Label → StatementsTree → H × Part
walked_body R head extent is begin ss = body_by R head extent (λ k. items_walked R k is) begin (has_return ss) (λ r k. statements_walked R r k ss)
