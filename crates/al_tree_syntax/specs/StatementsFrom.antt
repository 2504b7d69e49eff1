-- What the grammar's trees of statements and bodies stand for.
use Rattle.std.specs.Prelude.{Bool, List, None, Option, Some, [], false, is_some, option_map, true, ◌∷◌}
use Rattle.std.proofs.Common.{inl, inr}
use Rattle.al_tree_grammar.specs.Grammar.{ByRoom, Label}
use Rattle.al_tree_grammar.specs.Grammar.Rule.{Opt}
use Rattle.al_tree_syntax.specs.Constructs.Construct.{BodyOrStub as InBodyOrStub, CaseStatement as InCaseStatement, DeclareBlock as InDeclareBlock, EntryBody as InEntryBody, ForLoop as InForLoop, IfStatement as InIfStatement, PlainBlock as InPlainBlock, PlainLoop as InPlainLoop, ProtectedUnit as InProtectedUnit, SubprogramBody as InSubprogramBody, TaskBody as InTaskBody, WhileLoop as InWhileLoop}
use Rattle.al_tree_syntax.specs.Constructs.{construct_at, place}
use Rattle.al_tree_syntax.specs.Notation.{any, opens, the, ◌∣◌, ◌⨾◌}
use Rattle.al_tree_syntax.specs.Expressions.{expression_rule, identifier_rule}
use Rattle.al_tree_syntax.specs.Declarations.{item_rule, operation_body_rule, protected_body_rule, specification_rule, subprogram_rule}
use Rattle.al_tree_syntax.specs.Statements.{alternative_rule, block_rule, branch_rule, case_rule, choice_rule, declare_rule, delay_rule, exit_rule, for_rule, if_rule, loop_rule, named_rule, plain_block_rule, plain_loop_rule, return_rule, statement_rule, statements_rule, while_rule}
use Rattle.al_tree_syntax.specs.Units.{subprogram_body_rule}
use Rattle.al_tree_syntax.specs.Rules.{inside}
use Rattle.al_tree_syntax.specs.ExpressionTrees.{ExpressionTree}
use Rattle.al_tree_syntax.specs.ExpressionTrees.ExpressionTree.{Name}
use Rattle.al_tree_syntax.specs.DeclarationTrees.{SpecificationTree}
use Rattle.al_tree_syntax.specs.StatementTrees.{AlternativeTree, AlternativesTree, BlockTree, BodyTree, BranchTree, ChoiceTree, ElseTree, ElsifsTree, HandledTree, ItemTree, ItemsTree, LoopEndTree, LoopTree, MoreStatementsTree, OperationBodiesTree, OperationBodyTree, StatementTree, StatementsTree}
use Rattle.al_tree_syntax.specs.StatementTrees.ChoiceTree.{OthersChoice, RangeChoice}
use Rattle.al_tree_syntax.specs.StatementTrees.StatementsTree.{Statements}
use Rattle.al_tree_syntax.specs.StatementTrees.MoreStatementsTree.{MoreStatements, NoStatement}
use Rattle.al_tree_syntax.specs.StatementTrees.StatementTree.{Assignment, BlockStatement, CallStatement, CaseStatement, DelayStatement, ExitStatement, IfStatement, LoopStatement, NullStatement, ReturnStatement}
use Rattle.al_tree_syntax.specs.StatementTrees.BranchTree.{Branch}
use Rattle.al_tree_syntax.specs.StatementTrees.ElsifsTree.{MoreElsifs, NoElsif}
use Rattle.al_tree_syntax.specs.StatementTrees.ElseTree.{Else, NoElse}
use Rattle.al_tree_syntax.specs.StatementTrees.AlternativeTree.{Alternative}
use Rattle.al_tree_syntax.specs.StatementTrees.AlternativesTree.{MoreAlternatives, NoAlternative}
use Rattle.al_tree_syntax.specs.StatementTrees.LoopTree.{ForLoop, PlainLoop, WhileLoop}
use Rattle.al_tree_syntax.specs.StatementTrees.BlockTree.{DeclareBlock, PlainBlock}
use Rattle.al_tree_syntax.specs.StatementTrees.HandledTree.{Handled}
use Rattle.al_tree_syntax.specs.StatementTrees.BodyTree.{Body}
use Rattle.al_tree_syntax.specs.StatementTrees.ItemsTree.{MoreItems, NoItem}
use Rattle.al_tree_syntax.specs.StatementTrees.ItemTree.{BodyItem, CommonItem, ProtectedBodyItem, ProtectedItem, StubItem, SubprogramItem, TaskBodyItem, TaskItem}
use Rattle.al_tree_syntax.specs.StatementTrees.OperationBodiesTree.{MoreOperationBodies, NoOperationBody}
use Rattle.al_tree_syntax.specs.StatementTrees.OperationBodyTree.{EntryOperation, SubprogramOperation}
use Rattle.al_tree_syntax.specs.Insides.{NamedHandledTree, Nested, Of, each_from, roomed}
use Rattle.al_tree_syntax.specs.ExpressionsFrom.{expression_from, name_rest_from}
use Rattle.al_tree_syntax.specs.DeclarationsFrom.{common_from, compound_from, discrete_range_from, initial_from, protected_from, specification_from, task_from}
use Rattle.al_tree_syntax.specs.Symbols.Symbol.{Colon, Else as ElseWord, Elsif, Is, Semicolon, Separate, When}

module _ (c : Nested) where
  unfoldable pub loop_from : Of c loop_rule → LoopTree
  unfolding loop_rule construct_at
  loop_from (inl (l, x)) = c.from (place InPlainLoop) x l
  loop_from (inr (inl (l, x))) = c.from (place InWhileLoop) x l
  loop_from (inr (inr (l, x))) = c.from (place InForLoop) x l

  unfoldable pub block_from : Of c block_rule → BlockTree
  unfolding block_rule construct_at
  block_from (inl (l, x)) = c.from (place InDeclareBlock) x l
  block_from (inr (l, x)) = c.from (place InPlainBlock) x l

  -- after an identifier with a colon
  unfoldable pub labelled_from : Label → Of c (the Colon ⨾ (loop_rule ∣ block_rule)) → StatementTree
  labelled_from l (colon, inl x) = LoopStatement (Some l) (loop_from x)
  labelled_from l (colon, inr x) = BlockStatement (Some l) (block_from x)

  -- after an identifier
  unfoldable pub named_from : Label → Of c named_rule → StatementTree
  unfolding named_rule
  named_from l (inl (ps, (None, semicolon))) = CallStatement (name_rest_from c (Name l) ps)
  named_from l (inl (ps, (Some e, semicolon))) = Assignment (name_rest_from c (Name l) ps) (initial_from c e)
  named_from l (inr x) = labelled_from l (roomed c.room x)

  unfoldable pub return_from : Of c return_rule → StatementTree
  unfolding return_rule
  return_from (l, (e, semicolon)) = ReturnStatement l (option_map (expression_from c) e)

  unfoldable pub when_from : Of c (the When ⨾ expression_rule) → ExpressionTree
  when_from (when, e) = expression_from c e

  unfoldable pub exit_from : Of c exit_rule → StatementTree
  unfolding exit_rule identifier_rule
  exit_from (l, (n, (e, semicolon))) = ExitStatement l n (option_map when_from e)

  unfoldable pub delay_from : Of c delay_rule → StatementTree
  unfolding delay_rule
  delay_from (l, (until, (e, semicolon))) = DelayStatement l (expression_from c e)

  unfoldable pub statement_from : Of c statement_rule → StatementTree
  unfolding statement_rule identifier_rule construct_at
  statement_from (inl x) = NullStatement
  statement_from (inr (inl (l, x))) = named_from l x
  statement_from (inr (inr (inl x))) = return_from x
  statement_from (inr (inr (inr (inl x)))) = exit_from x
  statement_from (inr (inr (inr (inr (inl x))))) = delay_from x
  statement_from (inr (inr (inr (inr (inr (inl (l, x))))))) = c.from (place InIfStatement) x l
  statement_from (inr (inr (inr (inr (inr (inr (inl (l, x)))))))) = c.from (place InCaseStatement) x l
  statement_from (inr (inr (inr (inr (inr (inr (inr (inl x)))))))) = LoopStatement None (loop_from x)
  statement_from (inr (inr (inr (inr (inr (inr (inr (inr x)))))))) = BlockStatement None (block_from x)

  unfoldable pub more_statements_from : List (Of c statement_rule) → MoreStatementsTree
  more_statements_from [] = NoStatement
  more_statements_from (x ∷ xs) = MoreStatements (statement_from x) (more_statements_from xs)

  unfoldable pub statements_from : Of c statements_rule → StatementsTree
  unfolding statements_rule
  statements_from (x, xs) = Statements (statement_from x) (more_statements_from xs)

  unfoldable pub branch_from : Of c branch_rule → BranchTree
  unfolding branch_rule
  branch_from (e, (then, ss)) = Branch (expression_from c e) (statements_from ss)

  unfoldable pub elsifs_from : List (Of c (any Elsif ⨾ branch_rule)) → ElsifsTree
  elsifs_from [] = NoElsif
  elsifs_from ((l, x) ∷ xs) = MoreElsifs l (branch_from x) (elsifs_from xs)

  unfoldable pub else_from : Of c (Opt (the ElseWord ⨾ statements_rule)) → ElseTree
  else_from None = NoElse
  else_from (Some (mark, ss)) = Else (statements_from ss)

  unfoldable pub choice_from : Of c choice_rule → ChoiceTree
  unfolding choice_rule
  choice_from (inl others) = OthersChoice
  choice_from (inr r) = RangeChoice (discrete_range_from c r)

  unfoldable pub alternative_from : Of c alternative_rule → AlternativeTree
  unfolding alternative_rule
  alternative_from (when, ((x, xs), (arrow, ss))) = Alternative (choice_from x) (each_from choice_from xs) (statements_from ss)

  unfoldable pub alternatives_from : List (Of c alternative_rule) → AlternativesTree
  alternatives_from [] = NoAlternative
  alternatives_from (x ∷ xs) = MoreAlternatives (alternative_from x) (alternatives_from xs)

  unfoldable pub stub_or_body_from : (room : Bool) → SpecificationTree → ByRoom room (c.Tree (place InBodyOrStub)) (Of c (the Is ⨾ any Separate ⨾ the Semicolon)) → ItemTree
  unfolding construct_at
  stub_or_body_from true s x = c.from (place InBodyOrStub) x s
  stub_or_body_from false s (is, (l, semicolon)) = StubItem s l

  -- after the specification
  unfoldable pub subprogram_from : SpecificationTree → Of c subprogram_rule → ItemTree
  unfolding subprogram_rule
  subprogram_from s (inl semicolon) = SubprogramItem s
  subprogram_from s (inr x) = stub_or_body_from c.room s x

  unfoldable pub task_body_from : Label → NamedHandledTree → ItemTree
  task_body_from l b = TaskBodyItem l b.name b.handled

  unfoldable pub item_from : Of c item_rule → ItemTree
  unfolding item_rule construct_at
  item_from (inl x) = CommonItem (common_from c x)
  item_from (inr (inl (s, x))) = subprogram_from (specification_from c s) x
  item_from (inr (inr (inl (l, inl t)))) = TaskItem (task_from c l t)
  item_from (inr (inr (inl (l, inr x)))) = task_body_from l (c.from (place InTaskBody) x)
  item_from (inr (inr (inr (l, x)))) = c.from (place InProtectedUnit) x l

  unfoldable pub items_from : List (Of c item_rule) → ItemsTree
  items_from [] = NoItem
  items_from (x ∷ xs) = MoreItems (item_from x) (items_from xs)

  unfoldable pub operation_body_from : Of c (specification_rule ⨾ opens Is InSubprogramBody) → OperationBodyTree
  unfolding construct_at
  operation_body_from (s, x) = SubprogramOperation (specification_from c s) (c.from (place InSubprogramBody) x)

  unfoldable pub operation_bodies_from : List (Of c operation_body_rule) → OperationBodiesTree
  unfolding operation_body_rule construct_at
  operation_bodies_from [] = NoOperationBody
  operation_bodies_from (inl x ∷ xs) = MoreOperationBodies (operation_body_from (roomed c.room x)) (operation_bodies_from xs)
  operation_bodies_from (inr (l, x) ∷ xs) = MoreOperationBodies (c.from (place InEntryBody) x l) (operation_bodies_from xs)

  unfoldable pub handled_from : Of c declare_rule → HandledTree
  unfolding declare_rule plain_block_rule identifier_rule
  handled_from (xs, (l, (ss, (e, (n, semicolon))))) = Handled (items_from xs) l (statements_from ss) (record { end = e; end_name = n })

  unfoldable pub body_from : Of c subprogram_body_rule → BodyTree
  unfolding subprogram_body_rule
  body_from (xs, (l, (ss, (e, (n, semicolon))))) = Body (items_from xs) l (statements_from ss) (record { end = e; end_name = option_map (compound_from c) n })

  -- ---- inside the constructs

  unfoldable pub if_inside : Of c (inside InIfStatement) → Label → StatementTree
  unfolding inside if_rule
  if_inside (x, (xs, (y, (e, (m, semicolon))))) l = IfStatement l (branch_from x) (elsifs_from xs) (else_from y) e m

  unfoldable pub case_inside : Of c (inside InCaseStatement) → Label → StatementTree
  unfolding inside case_rule
  case_inside (x, (is, (a, (xs, (e, (m, semicolon)))))) l = CaseStatement l (expression_from c x) (alternative_from a) (alternatives_from xs) e m

  unfoldable pub loop_end_from : Label → Label → Option Label → LoopEndTree
  loop_end_from e m n = record { end = e; closing = m; end_name = n }

  unfoldable pub while_inside : Of c (inside InWhileLoop) → Label → LoopTree
  unfolding inside while_rule plain_loop_rule identifier_rule
  while_inside (x, (m, (ss, (e, (k, (n, semicolon)))))) l = WhileLoop l (expression_from c x) m (statements_from ss) (loop_end_from e k n)

  unfoldable pub for_inside : Of c (inside InForLoop) → Label → LoopTree
  unfolding inside for_rule plain_loop_rule identifier_rule
  for_inside (i, (in_word, (r, (d, (m, (ss, (e, (k, (n, semicolon))))))))) l =
      ForLoop l i (is_some r) (discrete_range_from c d) m (statements_from ss) (loop_end_from e k n)

  unfoldable pub plain_loop_inside : Of c (inside InPlainLoop) → Label → LoopTree
  unfolding inside plain_loop_rule identifier_rule
  plain_loop_inside (ss, (e, (k, (n, semicolon)))) l = PlainLoop l (statements_from ss) (loop_end_from e k n)

  unfoldable pub declare_inside : Of c (inside InDeclareBlock) → Label → BlockTree
  unfolding inside
  declare_inside x l = DeclareBlock l (handled_from x)

  unfoldable pub plain_block_inside : Of c (inside InPlainBlock) → Label → BlockTree
  unfolding inside plain_block_rule identifier_rule
  plain_block_inside (ss, (e, (n, semicolon))) l = PlainBlock l (statements_from ss) (record { end = e; end_name = n })

  unfoldable pub task_body_inside : Of c (inside InTaskBody) → NamedHandledTree
  unfolding inside identifier_rule
  task_body_inside (n, (is, x)) = record { name = n; handled = handled_from x }

  unfoldable pub entry_body_inside : Of c (inside InEntryBody) → Label → OperationBodyTree
  unfolding inside identifier_rule
  entry_body_inside (n, (when, (x, (is, y)))) l = EntryOperation l n (expression_from c x) (handled_from y)

  unfoldable pub body_inside : Of c (inside InSubprogramBody) → BodyTree
  unfolding inside
  body_inside x = body_from x

  unfoldable pub body_or_stub_inside : Of c (inside InBodyOrStub) → SpecificationTree → ItemTree
  unfolding inside
  body_or_stub_inside (inl (l, semicolon)) s = StubItem s l
  body_or_stub_inside (inr x) s = BodyItem s (body_from x)

  unfoldable pub protected_unit_inside : Of c (inside InProtectedUnit) → Label → ItemTree
  unfolding inside protected_body_rule identifier_rule
  protected_unit_inside (inl x) l = ProtectedItem l (protected_from c x)
  protected_unit_inside (inr (body, (n, (is, (xs, (e, (m, semicolon))))))) l = ProtectedBodyItem l n (operation_bodies_from xs) (record { end = e; end_name = m })
